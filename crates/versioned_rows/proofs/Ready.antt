-- What tests find out of lines before they apply them.
use Rattle.std.proofs.Common.{ℤ, ◌≡◌, ◌≢◌, ℕ, ◌+◌, ◌*◌, ◌<◌, ◌≤◌, ◌^◌, ◌-◌, ◌++◌, min, slice_get, Bool, true, false, ◌&&◌, List, [], ◌∷◌, length, refl, sym, ap, ◌∙◌, subst, arith}
use Rattle.std.specs.Prelude.{Result, Ok, Option, Some}
use Rattle.std.specs.List.{AllByRecursion, AllZip}
use Rattle.std.specs.List.Sorted.{IsStrictlySortedBy}
use Rattle.std.specs.Ordering.{is_lt}
use Rattle.std.specs.declared.cmp.Ordering.{Ordering}
use Rattle.std.specs.declared.cmp.Ordering.TheVariants.{Less, Equal}
use Rattle.std.proofs.lemmas.Cmp.{on_total}
use Rattle.cite_schema.specs.declared.memory.NoMemory.{NoMemory}
use Rattle.cite_schema.specs.declared.value.Value.{Value}
use Rattle.cite_schema.specs.declared.value.Value.TheVariants.{Int, Text}
use Rattle.cite_schema.specs.declared.line.Line.{Line}
use Rattle.cite_schema.specs.declared.line.Line.TheVariants.{Put, Change, Remove}
use Rattle.cite_schema.specs.Lines.{key_in, brought}
use Rattle.cite_schema.specs.Tables.{cell_cmp, rises}
use Rattle.cite_schema.proofs.Orders.{cell_total}
use Rattle.cite_schema.proofs.Rising.{sorted_from_rises}
use Rattle.versioned_rows.specs.ChangeLaws.{NameOwnKeys}
use Rattle.versioned_rows.specs.Histories.{RowHistory, rows_of}
use Rattle.versioned_rows.specs.Nexts.{Turns}
use Rattle.versioned_rows.specs.Weights.{value_weight, row_weight, rows_weight}
use Rattle.versioned_rows.proofs.Sums.{rows_weight-append}

-- the order of lines by the keys that they name
abbrev pub line_cmp : Line → Line → Ordering
line_cmp l m = cell_cmp (key_in l) (key_in m)

-- of each two neighbours the first names the lower key
abbrev pub keys_rise : List Line → Bool
keys_rise lines = rises (λ l m. is_lt (line_cmp l m)) lines

-- the other line names another key
abbrev pub NamesOther : Line → Line → Type 0
NamesOther l m = cell_cmp (key_in l) (key_in m) ≢ Equal

pub rises_first : (l : Line) (lines : List Line) (m : Line) (more : List Line) → lines ≡ m ∷ more → is_lt (line_cmp l m) ≡ true → keys_rise lines ≡ true → keys_rise (l ∷ lines) ≡ true
rises_first l [] m more e t r = cc
rises_first l (k ∷ ks) m more e t r = both (is_lt (line_cmp l k)) (keys_rise (k ∷ ks)) (ap (λ (x : Line). is_lt (line_cmp l x)) (first k m ks more e) ∙ t) r
  where
    first : (k m : Line) (ks more : List Line) → k ∷ ks ≡ m ∷ more → k ≡ m
    first k m ks more e = cc

    both : (a b : Bool) → a ≡ true → b ≡ true → (a && b) ≡ true
    both true b p q = q
    both false b p q = p

apart_below : (l : Line) (lines : List Line) → AllByRecursion (λ m. line_cmp l m ≡ Less) lines → AllByRecursion (NamesOther l) lines
apart_below l [] h = tt
apart_below l (m ∷ ms) h = (λ e. absurd (differ (line_cmp l m) h.0 e), apart_below l ms h.1)
  where
    differ : (o : Ordering) → o ≡ Less → o ≡ Equal → ⊥
    differ o p q = cc

sorted_apart : (lines : List Line) → IsStrictlySortedBy line_cmp lines → NameOwnKeys lines
unfolding IsStrictlySortedBy
sorted_apart [] h = tt
sorted_apart (l ∷ ls) h = (apart_below l ls h.0, sorted_apart ls h.1)

-- lines whose keys rise name their own keys
pub rising_apart : (lines : List Line) → keys_rise lines ≡ true → NameOwnKeys lines
rising_apart lines r = sorted_apart lines (sorted_from_rises line_cmp (on_total key_in cell_total) lines r)

-- lines bring a row each at most
pub brought_few : (lines : List Line) → length (brought lines) ≤ length lines
brought_few [] = omega arith
brought_few (Put r ∷ ls) = let more = brought_few ls in omega arith
brought_few (Change r ∷ ls) = let more = brought_few ls in omega arith
brought_few (Remove v ∷ ls) = let more = brought_few ls in omega arith

-- a capped sum below the cap is the sum
pub light_rows : (h : RowHistory) (weight sum : ℕ) (lines : List Line) → weight ≡ rows_weight (rows_of h) → sum ≡ min (weight + rows_weight (brought lines)) (2 ^ 64 - 1) → sum < 2 ^ 64 - 1
    → rows_weight (rows_of h ++ brought lines) < 2 ^ 64
light_rows h weight sum lines w s l = let e = rows_weight-append (rows_of h) (brought lines) in omega arith

-- a row was turned into one with its key that weighs a cell more at most
abbrev pub IsTurnedLightly : List Value → List Value → Type 0
IsTurnedLightly old new = (slice_get new 0 ≡ slice_get old 0) × (row_weight new ≤ row_weight old + 16)

-- rows that are turned so weigh a cell more each at most
pub turned_light : (returns : List Value → Result (Option (List Value)) NoMemory → Type 0) (olds news : List (List Value)) → AllZip (Turns returns) olds news → ((r t : List Value) → returns r (Ok (Some t)) → IsTurnedLightly r t)
    → rows_weight news ≤ rows_weight olds + 16 * length olds
turned_light returns [] [] z light = omega arith
turned_light returns [] (t ∷ ts) z light = absurd z
turned_light returns (r ∷ rs) [] z light = absurd z
turned_light returns (r ∷ rs) (t ∷ ts) z light =
    let here : row_weight t ≤ row_weight r + 16 = (light r t z.0).1 in
    let more = turned_light returns rs ts z.1 light in
    omega arith

-- a test of the first element of what is left to test
pub all_more : {X : Type 0} (P : X → Type 0) (xs rest more : List X) (first : X) → (AllByRecursion P rest → AllByRecursion P xs) → rest ≡ first ∷ more → P first → AllByRecursion P more → AllByRecursion P xs
all_more P xs rest more first step e p h = step (subst (AllByRecursion P) (sym e) (p, h))

pub apart_more : (lines rest more : List Line) (first : Line) → (NameOwnKeys rest → NameOwnKeys lines) → rest ≡ first ∷ more → AllByRecursion (NamesOther first) more → NameOwnKeys more → NameOwnKeys lines
apart_more lines rest more first step e p h = step (subst NameOwnKeys (sym e) (p, h))

pub nothing_left : {X : Type 0} (P : List X → Type 0) (rest : List X) → length rest ≡ 0 → P [] → P rest
nothing_left P [] e p = p
nothing_left P (x ∷ xs) e p = absurd (omega arith)

weighs_some : (v : Value) → 16 ≤ value_weight v
weighs_some (Int z) = omega arith
weighs_some (Text t) = omega arith

-- a row of two numbers, with the key of another row
pub two_lightly : (r t : List Value) (k l d : ℤ) → t ≡ Int l ∷ Int d ∷ [] → slice_get r 0 ≡ Some (Int k) → l ≡ k → IsTurnedLightly r t
two_lightly [] t k l d n e s = cc
two_lightly (v ∷ vs) t k l d n e s =
    let some = weighs_some v in subst (IsTurnedLightly (v ∷ vs)) (sym n) (ap (λ z. Some (Int z)) s ∙ sym e, omega arith)

last_weight : (r : List Value) (z : ℤ) → row_weight (r ++ Int z ∷ []) ≡ row_weight r + 16
last_weight [] z = refl
last_weight (v ∷ vs) z = let more = last_weight vs z in omega arith

-- a row with a number behind its cells
pub wide_lightly : (r copied t : List Value) (z : ℤ) → length r ≢ 0 → copied ≡ r → t ≡ copied ++ Int z ∷ [] → IsTurnedLightly r t
wide_lightly [] copied t z s e n = absurd (s refl)
wide_lightly (v ∷ vs) copied t z s e n =
    let more = last_weight (v ∷ vs) z in subst (IsTurnedLightly (v ∷ vs)) (sym (n ∙ ap (λ l. l ++ Int z ∷ []) e)) (refl, omega arith)
