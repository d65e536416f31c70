-- What a reader that is fed in pieces stands for.
use Rattle.std.specs.Prelude.{◌≡◌, ℕ, List, [], ◌∷◌, ◌++◌, Option, Some, None}
use Rattle.std.specs.List.{flat_map}
use Rattle.cite_http.specs.Messages.{Rest, Gives, Messages, fed, whole}
use Rattle.cite_http.specs.declared.message.Message.{Message}

-- the rest stands for all bytes that were fed, less the messages that were given: whatever is fed after it, the
-- messages of all bytes together are those that were given, and then those of the rest
abbrev pub Stands : List ℕ → List Message → Rest → Type 0
Stands bytes given r =
    (more : List ℕ) (ms : List Message) (t : Rest) → Messages (fed r more) ms t → Messages (whole (bytes ++ more)) (given ++ ms) t

-- the steps of a reader keep this
pub record StepsStand : Type 0 where
  pub start : Stands [] [] (whole [])
  pub feed : (bytes piece : List ℕ) (given : List Message) (r : Rest) → Stands bytes given r → Stands (bytes ++ piece) given (fed r piece)
  pub give : (bytes : List ℕ) (given : List Message) (r s : Rest) (m : Message) → Stands bytes given r → Gives r (Some m) s → Stands bytes (given ++ m ∷ []) s
  pub wait : (bytes : List ℕ) (given : List Message) (r s : Rest) → Stands bytes given r → Gives r None s → Stands bytes given s

-- and so the messages that were given are the first ones of all bytes that were fed
abbrev pub GivenAreFirst : Type 0
GivenAreFirst =
    (bytes : List ℕ) (given ms : List Message) (r t : Rest) → Stands bytes given r → Messages r ms t → Messages (whole bytes) (given ++ ms) t

-- a step gives one thing, and leaves one rest
abbrev pub OneIsGiven : Type 0
OneIsGiven = (r s t : Rest) (given other : Option Message) → Gives r given s → Gives r other t → (given ≡ other) × (s ≡ t)

-- a rest has at most one list of messages
abbrev pub AtMostOne : Type 0
AtMostOne = (r s t : Rest) (ms ns : List Message) → Messages r ms s → Messages r ns t → (ms ≡ ns) × (s ≡ t)

-- a text has messages
abbrev pub HasMessages : Rest → Type 0
HasMessages r = (ms : List Message) × (t : Rest) × Messages r ms t

-- pieces, one behind another
abbrev pub joined : List (List ℕ) → List ℕ
joined pieces = flat_map (λ piece. piece) pieces
