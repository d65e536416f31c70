-- The names of a data set and of its citations, and the spellings of a name.
use Rattle.std.specs.Prelude.{◌≡◌, ℕ, ◌≤◌, ◌⊎◌, List, [], ◌++◌, Option, Some, map, codes, decimal, ⊤, MatchOption}
use Rattle.std.specs.Char.{to_ascii_lowercase}
use Rattle.identifiers.specs.declared.named.Named.{Named}
use Rattle.identifiers.specs.declared.named.Named.TheVariants.{Superset, Subset}

-- what a name has behind the prefix
abbrev pub suffix_of : Named → List ℕ
suffix_of Superset = codes "/d1"
suffix_of (Subset number) = codes "/c" ++ decimal number

-- the name of the data set, and of a citation by its number
abbrev pub name_of : List ℕ → Named → List ℕ
name_of prefix named = prefix ++ suffix_of named

-- a citation's number is one that a citation may have
abbrev pub IsNumbered : Named → Type 0
IsNumbered Superset = ⊤
IsNumbered (Subset number) = (1 ≤ number) × (number ≤ 4294967295)

-- what may stand in front of a name: nothing, the scheme, or the resolver
abbrev pub IsLead : List ℕ → Type 0
IsLead lead = (lead ≡ []) ⊎ ((lead ≡ codes "doi:") ⊎ (lead ≡ codes "https://doi.org/"))

-- two texts are one but for the case of ASCII letters
abbrev pub IsSameText : List ℕ → List ℕ → Type 0
IsSameText text other = map to_ascii_lowercase text ≡ map to_ascii_lowercase other

-- the text is the name behind one of the leads, whatever its case
pub record IsSpelling (prefix : List ℕ) (named : Named) (text : List ℕ) : Type 0 where
  pub numbered : IsNumbered named
  pub lead : List ℕ
  pub is_lead : IsLead lead
  pub same : IsSameText (lead ++ name_of prefix named) text

-- what is read of a text: what it names, or nothing where it names nothing
abbrev pub IsReading : List ℕ → List ℕ → Option Named → Type 0
IsReading prefix text read = MatchOption read ((named : Named) → IsSpelling prefix named text → ⊥) (λ named. IsSpelling prefix named text)

-- a text names one thing at most, so one thing is read of it
abbrev pub ReadOnce : Type 0
ReadOnce = (prefix text : List ℕ) (read other : Option Named) → IsReading prefix text read → IsReading prefix text other → read ≡ other

-- of the name of a citation its number is read
abbrev pub MintedIsRead : Type 0
MintedIsRead = (prefix : List ℕ) (number : ℕ) (read : Option Named) → 1 ≤ number → number ≤ 4294967295
    → IsReading prefix (name_of prefix (Subset number)) read → read ≡ Some (Subset number)

-- and of that of the data set the data set
abbrev pub SupersetIsRead : Type 0
SupersetIsRead = (prefix : List ℕ) (read : Option Named) → IsReading prefix (name_of prefix Superset) read → read ≡ Some Superset
