-- Whether two forms are one is decided, part by part.
use Rattle.std.proofs.Common.{◌≡◌, ℕ, List, [], ◌∷◌, Option, refl, sym, ap, ◌∙◌}
use Rattle.std.specs.Prelude as std
use Rattle.std.proofs.Math.Bool.{Bool-discrete}
use Rattle.std.proofs.Math.Decide.{ℕ_discrete}
use Rattle.std.proofs.Math.IntN.{ℤ_discrete}
use Rattle.cite_schema.specs.declared.item.Item.{Item}
use Rattle.cite_schema.specs.declared.item.Dir.{Dir}
use Rattle.cite_schema.specs.declared.item.Shown.{Shown}
use Rattle.cite_schema.specs.declared.item.Shown.TheVariants.{Column, Constant}
use Rattle.subset_query.specs.declared.form.ColumnSet.{ColumnSet}
use Rattle.subset_query.specs.declared.form.ColumnSet.TheVariants.{Ints, Texts}
use Rattle.subset_query.specs.declared.form.Normal.{Normal}
use Rattle.subset_query.specs.declared.form.Normal.TheVariants.{Nothing, Some}

-- what is made of one part is decided by it
one_part : {A B : Type 0} (f : A → B) (a b : A) → (f a ≡ f b → a ≡ b) → Dec (a ≡ b) → Dec (f a ≡ f b)
one_part f a b back (yes p) = yes (ap f p)
one_part f a b back (no h) = no (λ e. h (back e))

-- what is made of two parts, and shows them, is decided by both
two_parts : {S A B : Type 0} (s t : S) (first : S → A) (second : S → B) (made : A → B → S) → ((w : S) → made (first w) (second w) ≡ w) → Dec (first s ≡ first t) → Dec (second s ≡ second t) → Dec (s ≡ t)
two_parts s t first second made whole (yes p) (yes q) = yes (sym (whole s) ∙ ap (λ x. made x (second s)) p ∙ ap (made (first t)) q ∙ whole t)
two_parts s t first second made whole (yes p) (no h) = no (λ e. h (ap second e))
two_parts s t first second made whole (no h) q = no (λ e. h (ap first e))

-- a list with an element in front is decided by both
front_same : {A : Type 0} (x y : A) (xs ys : List A) → Dec (x ≡ y) → Dec (xs ≡ ys) → Dec (x ∷ xs ≡ y ∷ ys)
front_same x y xs ys (yes p) (yes q) = yes (λ i. p i ∷ q i)
front_same x y xs ys (yes p) (no h) = no (λ e. let q : xs ≡ ys = cc in h q)
front_same x y xs ys (no h) q = no (λ e. let p : x ≡ y = cc in h p)

-- so are lists, where their elements are
lists_same : {A : Type 0} (xs ys : List A) → Discrete A → Dec (xs ≡ ys)
lists_same [] [] same = yes refl
lists_same [] (y ∷ ys) same = no (λ e. absurd (cc))
lists_same (x ∷ xs) [] same = no (λ e. absurd (cc))
lists_same (x ∷ xs) (y ∷ ys) same = front_same x y xs ys (same x y) (lists_same xs ys same)

-- and what may be missing, where what is there is
option_same : {A : Type 0} → Discrete A → Discrete (Option A)
option_same same std.None std.None = yes refl
option_same same std.None (std.Some y) = no (λ e. absurd (cc))
option_same same (std.Some x) std.None = no (λ e. absurd (cc))
option_same same (std.Some x) (std.Some y) = one_part std.Some x y (λ e. cc) (same x y)

-- texts
pub text_same : Discrete (List ℕ)
text_same t u = lists_same t u ℕ_discrete

-- sets of a column; the type of spans has no name in this crate, so spans are decided where the lists show it
set_same : Discrete ColumnSet
set_same (Ints ss) (Ints ts) =
    one_part Ints ss ts (λ e. cc) (lists_same ss ts (λ s t.
    two_parts s t (λ w. w.low) (λ w. w.high) (λ low high. record s { low = low; high = high }) (λ w. refl) (ℤ_discrete s.low t.low) (option_same ℤ_discrete s.high t.high)))
set_same (Ints ss) (Texts ts) = no (λ e. absurd (cc))
set_same (Texts ss) (Ints ts) = no (λ e. absurd (cc))
set_same (Texts ss) (Texts ts) =
    one_part Texts ss ts (λ e. cc) (lists_same ss ts (λ s t.
    two_parts s t (λ w. w.low) (λ w. w.high) (λ low high. record s { low = low; high = high }) (λ w. refl) (text_same s.low t.low) (option_same text_same s.high t.high)))

-- what an item shows
shown_same : Discrete Shown
shown_same (Column i) (Column j) = one_part Column i j (λ e. cc) (ℕ_discrete i j)
shown_same (Column i) (Constant bs) = no (λ e. absurd (cc))
shown_same (Constant bs) (Column j) = no (λ e. absurd (cc))
shown_same (Constant bs) (Constant cs) = one_part Constant bs cs (λ e. cc) (text_same bs cs)

-- items
item_same : Discrete Item
item_same i j = two_parts i j (λ w. w.label) (λ w. w.what) (λ label what. record { label = label; what = what }) (λ w. refl) (text_same i.label j.label) (shown_same i.what j.what)

-- order columns
dir_same : Discrete Dir
dir_same d e = two_parts d e (λ w. w.column) (λ w. w.down) (λ column down. record { column = column; down = down }) (λ w. refl) (ℕ_discrete d.column e.column) (Bool-discrete d.down e.down)

-- forms that pick rows are decided by their sets, their items and their orders
some_same : (ss ts : List ColumnSet) (is js : List Item) (ds es : List Dir) → Dec (ss ≡ ts) → Dec (is ≡ js) → Dec (ds ≡ es) → Dec (Some ss is ds ≡ Some ts js es)
some_same ss ts is js ds es (yes p) (yes q) (yes r) = yes (λ i. Some (p i) (q i) (r i))
some_same ss ts is js ds es (yes p) (yes q) (no h) = no (λ e. let r : ds ≡ es = cc in h r)
some_same ss ts is js ds es (yes p) (no h) r = no (λ e. let q : is ≡ js = cc in h q)
some_same ss ts is js ds es (no h) q r = no (λ e. let p : ss ≡ ts = cc in h p)

-- forms
pub form_same : Discrete Normal
form_same (Nothing ls) (Nothing ms) = one_part Nothing ls ms (λ e. cc) (lists_same ls ms text_same)
form_same (Nothing ls) (Some ts js es) = no (λ e. absurd (cc))
form_same (Some ss is ds) (Nothing ms) = no (λ e. absurd (cc))
form_same (Some ss is ds) (Some ts js es) = some_same ss ts is js ds es (lists_same ss ts set_same) (lists_same is js item_same) (lists_same ds es dir_same)
