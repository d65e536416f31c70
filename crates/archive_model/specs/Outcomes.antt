-- What a call does: its reply, the entry that it makes, if it makes one, and the archive afterwards.
use Rattle.std.specs.Prelude.{◌≡◌, ℕ, ◌+◌, max, List, [], ◌∷◌, Option, Some, None, option_map, Result, Ok, Err}
use Rattle.entry_codec.specs.declared.entry.Entry.{Entry}
use Rattle.entry_codec.specs.Payloads.{record_length}
use Rattle.archive_model.specs.declared.answers.Refused.{Refused}
use Rattle.archive_model.specs.declared.answers.Refused.TheVariants as refusals
use Rattle.archive_model.specs.Archives.{Archive, Version}
use Rattle.archive_model.specs.Limits.{Counted, limit_number, first_over}

-- an outcome of a call
pub record Outcome (R : Type 0) : Type 0 where
  pub reply : Result R Refused
  pub entry : Option Entry
  pub after : Archive

-- the call is refused, and changes nothing
abbrev pub refuses : {R : Type 0} → Archive → Refused → Outcome R
refuses a refusal = record { reply = Err refusal; entry = None; after = a }

-- the call asks what was done already, and changes nothing
abbrev pub repeats : {R : Type 0} → Archive → R → Outcome R
repeats a reply = record { reply = Ok reply; entry = None; after = a }

-- the entry is made, or the call is refused
abbrev pub makes : {R : Type 0} → Archive → Entry → R → Result Archive Refused → Outcome R
makes a entry reply (Ok next) = record { reply = Ok reply; entry = Some entry; after = next }
makes a entry reply (Err refusal) = refuses a refusal

-- the call is refused, or what follows decides
abbrev pub RefusedOr : {R : Type 0} → Archive → Option Refused → Outcome R → Type 0 → Type 0
RefusedOr a None o Rest = Rest
RefusedOr a (Some refusal) o Rest = o ≡ refuses a refusal

-- the stamp of an entry that is made at a moment
abbrev pub stamped : Archive → ℕ → ℕ
stamped a now = max now a.stamp

-- the archive with one version more, which an entry makes
abbrev pub grown : Archive → Version → Entry → Archive
grown a v entry = record a { last = v; older = a.last ∷ a.older; stamp = v.stamp; journal = a.journal + record_length entry }

-- the refusal for the first of some counts that is over its limit
abbrev pub over : Archive → List Counted → Option Refused
over a counts = option_map (λ c. refusals.Full (limit_number c)) (first_over a counts)

-- the entry of an outcome as a list
abbrev pub entries_of : Option Entry → List Entry
entries_of None = []
entries_of (Some e) = e ∷ []
