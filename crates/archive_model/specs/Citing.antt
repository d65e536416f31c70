-- What a citation does to an archive.
use Rattle.std.specs.Prelude.{◌≡◌, ◌⊎◌, ⊤, ℕ, zero, suc, ◌+◌, true, false, not, List, [], ◌∷◌, ◌++◌, Option, Some, None, option_map, Result, Ok, length, nat_lt, if◌then◌else◌}
use Rattle.std.specs.List.{AllByRecursion}
use Rattle.sha2.specs.Sha256.{sha256}
use Rattle.cite_schema.specs.Answers.{Gives, Alike}
use Rattle.cite_schema.specs.Queries.{asked}
use Rattle.cite_schema.specs.Metadata.{meta_fault}
use Rattle.cite_schema.specs.Tests.{demand, unless}
use Rattle.cite_schema.specs.declared.query.CiteAsk.{CiteAsk}
use Rattle.subset_query.specs.declared.form.Normal.{Normal}
use Rattle.subset_query.specs.Forms.{formed, IsSettled}
use Rattle.subset_query.specs.Checks.{query_fault}
use Rattle.entry_codec.specs.declared.entry.Entry.{Entry}
use Rattle.entry_codec.specs.declared.entry.Entry.TheVariants as entries
use Rattle.entry_codec.specs.Payloads.{payload, record_length}
use Rattle.archive_model.specs.declared.answers.Cited.{Cited}
use Rattle.archive_model.specs.declared.answers.Refused.{Refused}
use Rattle.archive_model.specs.declared.answers.Refused.TheVariants.{Query, BadMeta, ResultTooLarge, EntryTooLarge, ClockRange}
use Rattle.archive_model.specs.Archives.{Archive, Minted, columns_of, version_count}
use Rattle.archive_model.specs.Limits.{Citations, JournalBytes, result_limit, clock_end}
use Rattle.archive_model.specs.Outcomes.{Outcome, refuses, repeats, makes, RefusedOr, stamped, over}

-- the citation at place n, counted from 0, is the first that hits; those before it miss
abbrev pub IsFirst : (Miss Hit : Minted → Type 0) → List Minted → ℕ → Type 0
IsFirst Miss Hit [] n = ⊥
IsFirst Miss Hit (m ∷ ms) zero = Hit m
IsFirst Miss Hit (m ∷ ms) (suc n) = Miss m × IsFirst Miss Hit ms n

-- the citation fits: it gave these bytes, and on every table of the present schema its form gives the bytes of the query
abbrev pub Fits : Archive → CiteAsk → List ℕ → Minted → Type 0
Fits a ask bytes m = (m.bytes ≡ bytes) × Alike (columns_of a) (formed m.form) (asked (columns_of a) ask.query)

-- it does not fit
abbrev pub Misses : Archive → CiteAsk → List ℕ → Minted → Type 0
Misses a ask bytes m = Fits a ask bytes m → ⊥

-- the entry of a citation
abbrev pub cite_entry : Archive → CiteAsk → ℕ → List ℕ → Entry
cite_entry a ask now bytes =
    entries.Cite (record { stamp = stamped a now; number = length a.minted + 1; version = version_count a; result_sha = sha256 bytes; query = ask.query; meta = ask.meta })

-- the citation of a query, with its form and its bytes
abbrev pub new_minted : Archive → CiteAsk → ℕ → List ℕ → Normal → Minted
new_minted a ask now bytes form = record {
  issue = record { number = length a.minted + 1; version = version_count a; cited = stamped a now; updated = a.last.stamp; meta = ask.meta };
  asked = ask.query;
  form = form;
  bytes = bytes;
}

-- the archive with that citation
abbrev pub with_citation : Archive → CiteAsk → ℕ → List ℕ → Normal → Archive
with_citation a ask now bytes form =
    record a { minted = a.minted ++ new_minted a ask now bytes form ∷ []; stamp = stamped a now; journal = a.journal + record_length (cite_entry a ask now bytes) }

-- the archive after a citation that no other one fits, or the first rule that it breaks
abbrev pub new_citation : Archive → CiteAsk → ℕ → List ℕ → Normal → Result Archive Refused
new_citation a ask now bytes form =
    demand (not (nat_lt 16777216 (length (payload (cite_entry a ask now bytes))))) (EntryTooLarge (length (payload (cite_entry a ask now bytes)))) (
    unless (over (with_citation a ask now bytes form) (Citations ∷ JournalBytes ∷ [])) (
    demand (nat_lt now clock_end) (ClockRange now) (
    Ok (with_citation a ask now bytes form))))

-- the first citation that fits is the answer
pub record IsRepeat (a : Archive) (ask : CiteAsk) (bytes : List ℕ) (o : Outcome Cited) : Type 0 where
  pub place : ℕ
  pub first : IsFirst (Misses a ask bytes) (Fits a ask bytes) a.minted place
  pub outcome : o ≡ repeats a (record { number = place + 1; new = false })

-- none fits, and a citation is minted with the settled form of the query, or refused
pub record IsMinting (a : Archive) (ask : CiteAsk) (now : ℕ) (bytes : List ℕ) (o : Outcome Cited) : Type 0 where
  pub none : AllByRecursion (Misses a ask bytes) a.minted
  pub form : Normal
  pub settled : IsSettled (columns_of a) form
  pub alike : Alike (columns_of a) (asked (columns_of a) ask.query) (formed form)
  pub outcome : o ≡ makes a (cite_entry a ask now bytes) (record { number = length a.minted + 1; new = true }) (new_citation a ask now bytes form)

-- the refusal of a result that is too large
abbrev pub too_large : List ℕ → Option Refused
too_large bytes = if nat_lt result_limit (length bytes) then Some (ResultTooLarge (length bytes)) else None

-- the query gives these bytes on the last table, and they decide
pub record IsAnswered (a : Archive) (ask : CiteAsk) (now : ℕ) (o : Outcome Cited) : Type 0 where
  pub bytes : List ℕ
  pub gives : Gives (asked (columns_of a) ask.query) a.last.table bytes
  pub decided : RefusedOr a (too_large bytes) o (IsRepeat a ask bytes o ⊎ IsMinting a ask now bytes o)

-- an outcome of a citation at a moment
abbrev pub CiteStep : Archive → CiteAsk → ℕ → Outcome Cited → Type 0
CiteStep a ask now o =
    RefusedOr a (option_map Query (query_fault (columns_of a) ask.query)) o
    (RefusedOr a (option_map BadMeta (meta_fault ask.meta)) o (IsAnswered a ask now o))
