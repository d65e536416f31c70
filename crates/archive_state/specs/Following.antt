-- How a follower takes over a history, entry by entry.
use Rattle.std.specs.Prelude.{◌≡◌, ℕ, List, [], ◌∷◌, ◌++◌, Bool, true, false, Option, Some, None, Result, Ok, Err, ⊤}
use Rattle.entry_codec.specs.declared.entry.Entry.{Entry}
use Rattle.entry_codec.specs.Payloads.{payload}
use Rattle.entry_codec.specs.Spellable.{FitsEntry}
use Rattle.archive_model.specs.declared.answers.Refused.{Refused}
use Rattle.archive_model.specs.declared.answers.Refused.TheVariants as refusals
use Rattle.archive_model.specs.Archives.{Archive}
use Rattle.archive_model.specs.Histories.{LeadsTo}
use Rattle.archive_state.specs.declared.present.Present.{Present}
use Rattle.archive_state.specs.declared.plan.Planned.{Planned}
use Rattle.archive_state.specs.declared.plan.Planned.TheVariants.{Repeat, New}
use Rattle.archive_state.specs.Standing.{Stands, StandsFor}

-- what is kept stands for the history; where nothing is kept, the history is empty
abbrev pub Follows : Option Present → List Entry → Type 0
Follows None history = history ≡ []
Follows (Some p) history = (a : Archive) × StandsFor p history a

-- what is kept, if there is something, stands for some history
abbrev pub IsFollower : Option Present → Type 0
IsFollower None = ⊤
IsFollower (Some p) = Stands p

-- the entry can't stand behind the history
abbrev pub NeverBehind : List Entry → Entry → Type 0
NeverBehind history e = (b : Archive) → LeadsTo (history ++ e ∷ []) b → ⊥

-- what is kept behind an entry stands for the history with it; nothing is kept where the entry can't stand behind the history
abbrev pub TakesOver : List Entry → Entry → Option Present → Type 0
TakesOver history e None = NeverBehind history e
TakesOver history e (Some p) = Follows (Some p) (history ++ e ∷ [])

-- the payload is that of an entry, and what is kept stands for the history with it
pub record Grows (history : List Entry) (bytes : List ℕ) (new : Option Present) : Type 0 where
  pub entry : Entry
  pub fits : FitsEntry entry
  pub payload_is : bytes ≡ payload entry
  pub follows : Follows new (history ++ entry ∷ [])

-- an entry with the payload stands behind the history now; or none can, and nothing has changed; or memory was wanting, and nothing has
abbrev pub Hears : {E : Type 0} → List Entry → List ℕ → (old new : Option Present) → Result Bool E → Type 0
Hears history bytes old new (Ok true) = Grows history bytes new
Hears history bytes old new (Ok false) = (new ≡ old) × ((e : Entry) → FitsEntry e → bytes ≡ payload e → NeverBehind history e)
Hears history bytes old new (Err fault) = new ≡ old

-- what is kept of a plan: what it makes, exactly where its entry has the payload
abbrev pub KeepsOf : {R : Type 0} → Result (Planned R) Refused → List ℕ → Option Present → Type 0
KeepsOf (Ok (New made)) bytes (Some p) = (made.payload ≡ bytes) × (p ≡ made.next)
KeepsOf (Ok (New made)) bytes None = made.payload ≡ bytes → ⊥
KeepsOf (Ok (Repeat reply)) bytes kept = kept ≡ None
KeepsOf (Err refusals.NoMemory) bytes kept = ⊥
KeepsOf (Err refusal) bytes kept = kept ≡ None
