-- The table, by the parts of a path.
use Rattle.std.proofs.Common.{◌≡◌, ◌≢◌, ℕ, ◌<◌, ◌==◌, List, [], ◌∷◌, ◌++◌, codes, Option, Some, None, option_map, Bool, true, false, cond, if◌then◌else◌, refl, sym, ap, ◌∙◌, subst, arith, ltb, ◌&&◌, not, nat_eq, bytes_eq}
use Rattle.std.proofs.lemmas.Bool.Decides.{nat_tests}
use Rattle.matchit.specs.Rows.{Rows, prepend, ends}
use Rattle.matchit.specs.Seek.{first, or_else}
use Rattle.matchit.specs.Level.{IsText}
use Rattle.cite_http.specs.Parts.{parts, grown}
use Rattle.cite_http.specs.Routes.{route_of, segments, is_given}
use Rattle.cite_http.specs.RouterRows.{param, numbered_patterns}
use Rattle.cite_http.specs.declared.route.Route.{Route}
use Rattle.cite_http.specs.declared.route.Route.TheVariants.{State, Page, Bytes, Metadata, Batch, Cite, Migrate}
use Rattle.cite_http.proofs.RouterWalks.{Answer, Tells, at_end, at_slash, at_byte, at_param, tells_slash, tells_byte, tells_end, tells_none, tells_either, tells_param, some_part}

-- the number of a route
abbrev pub number_of : Route → ℕ
number_of State = 0
number_of Page = 1
number_of Bytes = 2
number_of Metadata = 3
number_of Batch = 4
number_of Cite = 5
number_of Migrate = 6

-- a word in front
abbrev pub at_word : List ℕ → Answer → Answer
at_word [] g = g
at_word (x ∷ w) g = at_byte x (at_word w g)

abbrev is_word : List ℕ → Bool
is_word [] = true
is_word (x ∷ w) = ltb x 256 && (not (x == 47) && is_word w)

prepend_cons : (x : ℕ) (w : List ℕ) (T : Rows) → prepend (x ∷ w) T ≡ prepend (x ∷ []) (prepend w T)
prepend_cons x w [] = refl
prepend_cons x w ((t, k) ∷ T) = ap (λ r. (x ∷ (w ++ t), k) ∷ r) (prepend_cons x w T)

prepend_none : (T : Rows) → prepend [] T ≡ T
prepend_none [] = refl
prepend_none ((t, k) ∷ T) = ap (λ r. (t, k) ∷ r) (prepend_none T)

both : (a b c : Bool) → (a && (b && c)) ≡ true → (a ≡ true) × (b ≡ true) × (c ≡ true)
both true true true e = (refl, refl, refl)
both true true false e = absurd (cc)
both true false c e = absurd (cc)
both false b c e = absurd (cc)

tells_word : (w : List ℕ) (T : Rows) (g : Answer) → is_word w ≡ true → Tells T g → Tells (prepend w T) (at_word w g)
tells_word [] T g e t = let P : Rows → Type 0 = λ r. Tells r g in subst P (sym (prepend_none T)) t
tells_word (x ∷ w) T g e t =
    let b = both (ltb x 256) (not (x == 47)) (is_word w) e in
    let l : x < 256 = grind (arith, nat_tests, b.0) in
    let n : (x == 47) ≡ false = grind (arith, nat_tests, b.1) in
    let P : Rows → Type 0 = λ r. Tells r (at_word (x ∷ w) g) in
    subst P (sym (prepend_cons x w T)) (tells_byte x (prepend w T) (at_word w g) l n (tells_word w T g b.2 t))

-- what the pieces answer
abbrev no_more : Answer
no_more ss = None

abbrev batch_number : Answer
batch_number = at_param (Some 4) no_more

abbrev batch_curator : Answer
batch_curator = at_param None batch_number

abbrev batch_schema : Answer
batch_schema = at_param None batch_curator

abbrev after_batch : Answer
after_batch = at_slash batch_schema

abbrev after_name : Answer
after_name ss = or_else (at_word (codes "data") (at_end 2) ss) (at_word (codes "meta") (at_end 3) ss)

abbrev id_suffix : Answer
id_suffix = at_param (Some 1) after_name

abbrev id_prefix : Answer
id_prefix = at_param None id_suffix

abbrev after_id : Answer
after_id = at_slash id_prefix

abbrev migrate_schema : Answer
migrate_schema = at_param (Some 6) no_more

abbrev after_migrate : Answer
after_migrate = at_slash migrate_schema

abbrev after_root : Answer
after_root ss =
    or_else (at_word (codes "batch") after_batch ss) (
    or_else (at_word (codes "cite") (at_end 5) ss) (
    or_else (at_word (codes "id") after_id ss) (
    or_else (at_word (codes "migrate") after_migrate ss) (at_word (codes "state") (at_end 0) ss))))

abbrev batch_rows : Rows
batch_rows = prepend (47 ∷ []) (param (param (param [] (Some 4)) None) None)

abbrev name_rows : Rows
name_rows = prepend (codes "data") (ends (Some 2)) ++ prepend (codes "meta") (ends (Some 3))

abbrev id_rows : Rows
id_rows = prepend (47 ∷ []) (param (param name_rows (Some 1)) None)

abbrev migrate_rows : Rows
migrate_rows = prepend (47 ∷ []) (param [] (Some 6))

tells_batch : Tells batch_rows after_batch
tells_batch = tells_slash _ batch_schema (tells_param _ None batch_curator (tells_param _ None batch_number (tells_param [] (Some 4) no_more tells_none)))

tells_name : Tells name_rows after_name
tells_name = tells_either 100 (prepend (codes "ata") (ends (Some 2))) (prepend (codes "meta") (ends (Some 3))) (at_word (codes "data") (at_end 2)) (at_word (codes "meta") (at_end 3)) (omega arith) refl refl refl
    (tells_word (codes "data") (ends (Some 2)) (at_end 2) refl (tells_end 2)) (tells_word (codes "meta") (ends (Some 3)) (at_end 3) refl (tells_end 3))

tells_id : Tells id_rows after_id
tells_id = tells_slash _ id_prefix (tells_param _ None id_suffix (tells_param name_rows (Some 1) after_name tells_name))

tells_migrate : Tells migrate_rows after_migrate
tells_migrate = tells_slash _ migrate_schema (tells_param [] (Some 6) no_more tells_none)

abbrev from_state : Rows
from_state = prepend (codes "state") (ends (Some 0))

abbrev from_migrate : Rows
from_migrate = prepend (codes "migrate") migrate_rows ++ from_state

abbrev from_id : Rows
from_id = prepend (codes "id") id_rows ++ from_migrate

abbrev from_cite : Rows
from_cite = prepend (codes "cite") (ends (Some 5)) ++ from_id

abbrev root_rows : Rows
root_rows = prepend (codes "batch") batch_rows ++ from_cite

abbrev on_migrate : Answer
on_migrate ss = or_else (at_word (codes "migrate") after_migrate ss) (at_word (codes "state") (at_end 0) ss)

abbrev on_id : Answer
on_id ss = or_else (at_word (codes "id") after_id ss) (on_migrate ss)

abbrev on_cite : Answer
on_cite ss = or_else (at_word (codes "cite") (at_end 5) ss) (on_id ss)

tells_migrate_on : Tells from_migrate on_migrate
tells_migrate_on = tells_either 109 (prepend (codes "igrate") migrate_rows) from_state (at_word (codes "migrate") after_migrate) (at_word (codes "state") (at_end 0)) (omega arith) refl refl refl
    (tells_word (codes "migrate") migrate_rows after_migrate refl tells_migrate) (tells_word (codes "state") (ends (Some 0)) (at_end 0) refl (tells_end 0))

tells_id_on : Tells from_id on_id
tells_id_on = tells_either 105 (prepend (codes "d") id_rows) from_migrate (at_word (codes "id") after_id) on_migrate (omega arith) refl refl refl (tells_word (codes "id") id_rows after_id refl tells_id) tells_migrate_on

tells_cite_on : Tells from_cite on_cite
tells_cite_on = tells_either 99 (prepend (codes "ite") (ends (Some 5))) from_id (at_word (codes "cite") (at_end 5)) on_id (omega arith) refl refl refl (tells_word (codes "cite") (ends (Some 5)) (at_end 5) refl (tells_end 5)) tells_id_on

tells_root : Tells root_rows after_root
tells_root = tells_either 98 (prepend (codes "atch") batch_rows) from_cite (at_word (codes "batch") after_batch) on_cite (omega arith) refl refl refl (tells_word (codes "batch") batch_rows after_batch refl tells_batch) tells_cite_on

tells_rows : Tells numbered_patterns (at_slash after_root)
tells_rows = tells_slash root_rows after_root tells_root

-- each word, by what the first part is
cond_none : (b : Bool) (o : Option ℕ) → o ≡ None → cond b o None ≡ None
cond_none true o e = e
cond_none false o e = refl

cond_same : (b : Bool) (o p : Option ℕ) → o ≡ p → cond b o None ≡ cond b p None
cond_same b o p e = ap (λ x. cond b x None) e

cond_both : (u v w : Bool) (o : Option ℕ) → u ≡ w → cond u (cond v o None) None ≡ cond (w && v) o None
cond_both true v true o e = refl
cond_both true v false o e = absurd (cc)
cond_both false v true o e = absurd (cc)
cond_both false v false o e = refl

swapped : (x y : ℕ) → (x == y) ≡ nat_eq y x
swapped x y = grind (arith, nat_tests)

word_slash_one : (w : List ℕ) (g : Answer) (a : List ℕ) → at_word w (at_slash g) (a ∷ []) ≡ None
word_slash_one [] g [] = refl
word_slash_one [] g (y ∷ a) = refl
word_slash_one (x ∷ w) g [] = refl
word_slash_one (x ∷ w) g (y ∷ a) = cond_none (x == y) _ (word_slash_one w g a)

word_slash_more : (w : List ℕ) (g : Answer) (a b : List ℕ) (ss : List (List ℕ)) → at_word w (at_slash g) (a ∷ b ∷ ss) ≡ cond (bytes_eq a w) (g (b ∷ ss)) None
word_slash_more [] g [] b ss = refl
word_slash_more [] g (y ∷ a) b ss = refl
word_slash_more (x ∷ w) g [] b ss = refl
word_slash_more (x ∷ w) g (y ∷ a) b ss = cond_same (x == y) _ _ (word_slash_more w g a b ss) ∙ cond_both (x == y) (bytes_eq a w) (nat_eq y x) (g (b ∷ ss)) (swapped x y)

word_end_one : (w : List ℕ) (k : ℕ) (a : List ℕ) → at_word w (at_end k) (a ∷ []) ≡ cond (bytes_eq a w) (Some k) None
word_end_one [] k [] = refl
word_end_one [] k (y ∷ a) = refl
word_end_one (x ∷ w) k [] = refl
word_end_one (x ∷ w) k (y ∷ a) = cond_same (x == y) _ _ (word_end_one w k a) ∙ cond_both (x == y) (bytes_eq a w) (nat_eq y x) (Some k) (swapped x y)

word_end_more : (w : List ℕ) (k : ℕ) (a b : List ℕ) (ss : List (List ℕ)) → at_word w (at_end k) (a ∷ b ∷ ss) ≡ None
word_end_more [] k [] b ss = refl
word_end_more [] k (y ∷ a) b ss = refl
word_end_more (x ∷ w) k [] b ss = refl
word_end_more (x ∷ w) k (y ∷ a) b ss = cond_none (x == y) _ (word_end_more w k a b ss)

given_some : (y : ℕ) (a : List ℕ) → is_given (y ∷ a) ≡ true
given_some y a = grind (arith, nat_tests)

param_last : (v : Option ℕ) (g : Answer) (b : List ℕ) → at_param v g (b ∷ []) ≡ cond (is_given b) v None
param_last v g [] = refl
param_last v g (y ∷ b) = sym (ap (λ t. cond t v None) (given_some y b))

param_more : (v : Option ℕ) (g : Answer) (b c : List ℕ) (ss : List (List ℕ)) → at_param v g (b ∷ c ∷ ss) ≡ cond (is_given b) (g (c ∷ ss)) None
param_more v g [] c ss = refl
param_more v g (y ∷ b) c ss = sym (ap (λ t. cond t (g (c ∷ ss)) None) (given_some y b))

five : (a b c d e p q r s t : Option ℕ) → a ≡ p → b ≡ q → c ≡ r → d ≡ s → e ≡ t
    → or_else a (or_else b (or_else c (or_else d e))) ≡ or_else p (or_else q (or_else r (or_else s t)))
five a b c d e p q r s t ea eb ec ed ee = rw (ea, eb, ec, ed, ee) refl

-- words with different first letters
and_first : (u v : Bool) → (u && v) ≡ true → u ≡ true
and_first true v e = refl
and_first false v e = absurd (cc)

apart : (a v w : List ℕ) (x z : ℕ) → x ≢ z → bytes_eq a (x ∷ v) ≡ true → bytes_eq a (z ∷ w) ≡ false
apart [] v w x z n e = absurd (cc)
apart (y ∷ a) v w x z n e =
    let f : nat_eq y x ≡ true = and_first (nat_eq y x) (bytes_eq a v) e in
    let s : y ≡ x = grind (arith, nat_tests) in
    let g : nat_eq y z ≡ false = grind (arith, nat_tests) in
    rw g refl

table_one : (s c : Bool) → (s ≡ true → c ≡ false) → or_else None (or_else (cond c (Some 5) None) (or_else None (or_else None (cond s (Some 0) None)))) ≡ option_map number_of (if s then Some State else if c then Some Cite else None)
table_one true true x = absurd (let z : true ≡ false = x refl in cc)
table_one true false x = refl
table_one false true x = refl
table_one false false x = refl

table_two : (m g : Bool) → or_else None (or_else None (or_else None (or_else (cond m (cond g (Some 6) None) None) None))) ≡ option_map number_of (if m && g then Some Migrate else None)
table_two true true = refl
table_two true false = refl
table_two false g = refl

table_three : (i b c : Bool) → or_else None (or_else None (or_else (cond i (cond b (cond c (Some 1) None) None) None) (or_else None None))) ≡ option_map number_of (if i && b && c then Some Page else None)
table_three true true true = refl
table_three true true false = refl
table_three true false c = refl
table_three false b c = refl

table_four : (i k b c d t m : Bool) → (k ≡ true → i ≡ false)
    → or_else (cond k (cond b (cond c (cond d (Some 4) None) None) None) None) (or_else None (or_else (cond i (cond b (cond c (or_else (cond t (Some 2) None) (cond m (Some 3) None)) None) None) None) (or_else None None)))
    ≡ option_map number_of (if i && b && c then (if t then Some Bytes else if m then Some Metadata else None) else if k && b && c && d then Some Batch else None)
table_four true true b c d t m x = absurd (let z : true ≡ false = x refl in cc)
table_four true false true true d true m x = refl
table_four true false true true d false true x = refl
table_four true false true true d false false x = refl
table_four true false true false d t m x = refl
table_four true false false c d t m x = refl
table_four false true true true true t m x = refl
table_four false true true true false t m x = refl
table_four false true true false d t m x = refl
table_four false true false c d t m x = refl
table_four false false b c d t m x = refl

answers : (ss : List (List ℕ)) → after_root ss ≡ option_map number_of (route_of ss)
answers [] = refl
answers (a ∷ []) =
    five _ _ _ _ _ None (cond (bytes_eq a (codes "cite")) (Some 5) None) None None (cond (bytes_eq a (codes "state")) (Some 0) None)
    (word_slash_one (codes "batch") batch_schema a) (word_end_one (codes "cite") 5 a) (word_slash_one (codes "id") id_prefix a) (word_slash_one (codes "migrate") migrate_schema a) (word_end_one (codes "state") 0 a)
    ∙ table_one (bytes_eq a (codes "state")) (bytes_eq a (codes "cite")) (apart a (codes "tate") (codes "ite") 115 99 (λ z. omega arith))
answers (a ∷ b ∷ []) =
    five _ _ _ _ _ None None None (cond (bytes_eq a (codes "migrate")) (cond (is_given b) (Some 6) None) None) None
    (word_slash_more (codes "batch") batch_schema a b [] ∙ cond_none _ _ (param_last None batch_curator b ∙ cond_none (is_given b) None refl))
    (word_end_more (codes "cite") 5 a b [])
    (word_slash_more (codes "id") id_prefix a b [] ∙ cond_none _ _ (param_last None id_suffix b ∙ cond_none (is_given b) None refl))
    (word_slash_more (codes "migrate") migrate_schema a b [] ∙ cond_same _ _ _ (param_last (Some 6) no_more b))
    (word_end_more (codes "state") 0 a b [])
    ∙ table_two (bytes_eq a (codes "migrate")) (is_given b)
answers (a ∷ b ∷ c ∷ []) =
    five _ _ _ _ _ None None (cond (bytes_eq a (codes "id")) (cond (is_given b) (cond (is_given c) (Some 1) None) None) None) None None
    (word_slash_more (codes "batch") batch_schema a b _ ∙ cond_none _ _ (param_more None batch_curator b c [] ∙ cond_none _ _ (param_last None batch_number c ∙ cond_none (is_given c) None refl)))
    (word_end_more (codes "cite") 5 a b _)
    (word_slash_more (codes "id") id_prefix a b _ ∙ cond_same _ _ _ (param_more None id_suffix b c [] ∙ cond_same _ _ _ (param_last (Some 1) after_name c)))
    (word_slash_more (codes "migrate") migrate_schema a b _ ∙ cond_none _ _ (param_more (Some 6) no_more b c [] ∙ cond_none (is_given b) None refl))
    (word_end_more (codes "state") 0 a b _)
    ∙ table_three (bytes_eq a (codes "id")) (is_given b) (is_given c)
answers (a ∷ b ∷ c ∷ d ∷ []) =
    five _ _ _ _ _ (cond (bytes_eq a (codes "batch")) (cond (is_given b) (cond (is_given c) (cond (is_given d) (Some 4) None) None) None) None) None
    (cond (bytes_eq a (codes "id")) (cond (is_given b) (cond (is_given c) (or_else (cond (bytes_eq d (codes "data")) (Some 2) None) (cond (bytes_eq d (codes "meta")) (Some 3) None)) None) None) None) None None
    (word_slash_more (codes "batch") batch_schema a b _ ∙ cond_same _ _ _ (param_more None batch_curator b c _ ∙ cond_same _ _ _ (param_more None batch_number c d [] ∙ cond_same _ _ _ (param_last (Some 4) no_more d))))
    (word_end_more (codes "cite") 5 a b _)
    (word_slash_more (codes "id") id_prefix a b _ ∙ cond_same _ _ _ (param_more None id_suffix b c _ ∙ cond_same _ _ _ (param_more (Some 1) after_name c d [] ∙ cond_same (is_given c) _ _ (name_one d))))
    (word_slash_more (codes "migrate") migrate_schema a b _ ∙ cond_none _ _ (param_more (Some 6) no_more b c _ ∙ cond_none (is_given b) None refl))
    (word_end_more (codes "state") 0 a b _)
    ∙ table_four (bytes_eq a (codes "id")) (bytes_eq a (codes "batch")) (is_given b) (is_given c) (is_given d) (bytes_eq d (codes "data")) (bytes_eq d (codes "meta")) (apart a (codes "atch") (codes "d") 98 105 (λ z. omega arith))
  where
    name_one : (d : List ℕ) → after_name (d ∷ []) ≡ or_else (cond (bytes_eq d (codes "data")) (Some 2) None) (cond (bytes_eq d (codes "meta")) (Some 3) None)
    name_one d = ap (λ o. or_else o (at_word (codes "meta") (at_end 3) (d ∷ []))) (word_end_one (codes "data") 2 d) ∙ ap (or_else (cond (bytes_eq d (codes "data")) (Some 2) None)) (word_end_one (codes "meta") 3 d)
answers (a ∷ b ∷ c ∷ d ∷ e ∷ ss) =
    five _ _ _ _ _ None None None None None
    (word_slash_more (codes "batch") batch_schema a b _ ∙ cond_none _ _ (param_more None batch_curator b c _ ∙ cond_none _ _ (param_more None batch_number c d _ ∙ cond_none _ _ (param_more (Some 4) no_more d e ss ∙ cond_none (is_given d) None refl))))
    (word_end_more (codes "cite") 5 a b _)
    (word_slash_more (codes "id") id_prefix a b _ ∙ cond_none _ _ (param_more None id_suffix b c _ ∙ cond_none _ _ (param_more (Some 1) after_name c d _ ∙ cond_none (is_given c) _ (name_more d e ss))))
    (word_slash_more (codes "migrate") migrate_schema a b _ ∙ cond_none _ _ (param_more (Some 6) no_more b c _ ∙ cond_none (is_given b) None refl))
    (word_end_more (codes "state") 0 a b _)
  where
    name_more : (d e : List ℕ) (ss : List (List ℕ)) → after_name (d ∷ e ∷ ss) ≡ None
    name_more d e ss = ap (λ o. or_else o (at_word (codes "meta") (at_end 3) (d ∷ e ∷ ss))) (word_end_more (codes "data") 2 d e ss) ∙ word_end_more (codes "meta") 3 d e ss

-- the walk over the patterns finds the number of the table's route
pub patterns_are_the_table : (path : List ℕ) → IsText path → first numbered_patterns path ≡ option_map number_of (route_of (segments path))
patterns_are_the_table [] h = tells_rows [] h
patterns_are_the_table (y ∷ p) h = tells_rows (y ∷ p) h ∙ by (y == 47) (parts 47 p) (some_part 47 p)
  where
    by : (v : Bool) (ps : List (List ℕ)) → ((a : List ℕ) × (qs : List (List ℕ)) × (ps ≡ a ∷ qs)) → at_slash after_root (if v then [] ∷ ps else grown y ps) ≡ option_map number_of (route_of (if v then ps else []))
    by v [] s = absurd (let z : [] ≡ s.0 ∷ s.1 = s.2 in cc)
    by true (a ∷ qs) s = answers (a ∷ qs)
    by false (a ∷ qs) s = refl
