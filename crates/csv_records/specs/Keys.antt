-- The keys of lines, and the first line whose key an earlier line has.
use Rattle.std.specs.Prelude.{◌≡◌, ◌≢◌, ◌<◌, ◌+◌, ℕ, ℤ, List, [], ◌∷◌, ◌++◌, Option, Some, None, map, length, AllPairs, nat_lt, if◌then◌else◌}
use Rattle.std.specs.List.{Contains}
use Rattle.std.specs.declared.cmp.Ordering.{Ordering}
use Rattle.std.specs.declared.cmp.Ordering.TheVariants.{Equal}
use Rattle.cite_schema.specs.declared.value.Value.{Value}
use Rattle.cite_schema.specs.declared.value.Value.TheVariants.{Int, Text}
use Rattle.csv_records.specs.declared.keys.Keys.{Keys}

-- the numbers among the keys of the lines from line n on, each with its line
abbrev pub numbers_in : ℕ → List Value → List (ℤ × ℕ)
numbers_in n [] = []
numbers_in n (Int z ∷ ks) = (z, n) ∷ numbers_in (n + 1) ks
numbers_in n (Text t ∷ ks) = numbers_in (n + 1) ks

-- the texts among them, each with its line
abbrev pub texts_in : ℕ → List Value → List (List ℕ × ℕ)
texts_in n [] = []
texts_in n (Int z ∷ ks) = texts_in (n + 1) ks
texts_in n (Text t ∷ ks) = (t, n) ∷ texts_in (n + 1) ks

-- the keys of the lines from line 1 on are held, and no other
pub record AreKeys {T : Type 0} (bytes : T → List ℕ) (held : Keys T) (keys : List Value) : Type 0 where
  pub numbers : held.numbers.items ≡ numbers_in 1 keys
  pub texts : map (λ e. (bytes e.0, e.1)) held.texts.items ≡ texts_in 1 keys

-- no key stands twice
abbrev pub AreApart : List Value → Type 0
AreApart keys = AllPairs (λ a b. a ≢ b) keys

-- line n is the first whose key stands in an earlier line; lines are counted from 1
pub record IsFirstAgain (keys : List Value) (n : ℕ) : Type 0 where
  pub front : List Value
  pub key : Value
  pub rest : List Value
  pub parts : keys ≡ front ++ key ∷ rest
  pub line : n ≡ length front + 1
  pub again : Contains front key
  pub apart : AreApart front

-- a key stands in line n, and behind another line that has it
pub record Follows {K : Type 0} (cmp : K → K → Ordering) (earlier later : K × ℕ) (n : ℕ) : Type 0 where
  pub tied : cmp earlier.0 later.0 ≡ Equal
  pub before : earlier.1 < later.1
  pub line : later.1 ≡ n

-- a key of line n is held with an earlier line too
pub record ComesAgain {K : Type 0} (cmp : K → K → Ordering) (held : List (K × ℕ)) (n : ℕ) : Type 0 where
  pub earlier : K × ℕ
  pub later : K × ℕ
  pub earlier_held : Contains held earlier
  pub later_held : Contains held later
  pub follows : Follows cmp earlier later n

-- the least number of which something is so, where there is one
abbrev pub IsLeast : (ℕ → Type 0) → Option ℕ → Type 0
IsLeast P None = (n : ℕ) → P n → ⊥
IsLeast P (Some n) = P n × ((m : ℕ) → m < n → P m → ⊥)

-- the lesser of two numbers, where both are there
abbrev pub lesser : Option ℕ → Option ℕ → Option ℕ
lesser None b = b
lesser (Some a) None = Some a
lesser (Some a) (Some b) = Some (if nat_lt b a then b else a)
