-- The printed form tells settled forms apart.
use Rattle.std.proofs.Common.{◌≡◌, ◌≢◌, ℤ, pos, negsuc, ℕ, zero, suc, ◌+◌, ◌<◌, ◌≤◌, ◌^◌, Bool, true, false, ◌&&◌, ◌⊎◌, inl, inr, List, [], ◌∷◌, ◌++◌, Option, Some, None, length, slice_get, nat_lt, refl, sym, ap, ◌∙◌, subst, arith, append_assoc}
use Rattle.std.proofs.lemmas.Bool.Decides.{nat_tests}
use Rattle.std.proofs.lemmas.Fmt.{decimal_injective, signed_decimal_injective, digits_decimal}
use Rattle.std.proofs.lemmas.Str.Parse.{numerals_by_value, tells_all_ascii_digits}
use Rattle.std.specs.Prelude.{codes, is_none, nat_eq, Result, Ok, if◌then◌else◌, ◌==◌}
use Rattle.std.specs.List.{AllByRecursion, AllPass, list_all, flat_map}
use Rattle.std.specs.Char.{is_ascii_digit}
use Rattle.std.specs.Str.{all_ascii_digits}
use Rattle.std.specs.Fmt.{decimal, signed_decimal}
use Rattle.std.specs.Ordering.{int_cmp}
use Rattle.std.specs.declared.cmp.Ordering.{Ordering}
use Rattle.std.specs.declared.cmp.Ordering.TheVariants.{Less}
use Rattle.hex.specs.Hex.{encode_lower, decode_of, is_hex_digit, IsBytes}
use Rattle.hex.proofs.HexLemmas.{decode_of-encode_lower, decode_of-ok}
use Rattle.cite_schema.specs.Values.{text_cmp, is_number, is_text}
use Rattle.cite_schema.specs.declared.value.Kind.{Kind}
use Rattle.cite_schema.specs.declared.value.Kind.TheVariants as kinds
use Rattle.cite_schema.specs.declared.schema.Column as schema_column
use Rattle.cite_schema.specs.declared.item.Item.{Item}
use Rattle.cite_schema.specs.declared.item.Dir.{Dir}
use Rattle.cite_schema.specs.declared.item.Shown.{Shown}
use Rattle.cite_schema.specs.declared.item.Shown.TheVariants.{Column, Constant}
use Rattle.cite_schema.specs.Headings.{is_heading, name_fault}
use Rattle.cite_schema.specs.declared.schema.SchemaFault.TheVariants.{NoColumns, TooManyColumns}
use Rattle.cite_schema.proofs.Rising.{and_first, and_second}
use Rattle.interval_normal.specs.declared.set.Span.{Span}
use Rattle.interval_normal.specs.Points.{least_number, least_number_valid, number_least, text_least}
use Rattle.interval_normal.specs.Spans.{IsCanonical, IsEnd}
use Rattle.interval_normal.proofs.Order.{IsLine}
use Rattle.subset_query.specs.declared.form.ColumnSet.{ColumnSet}
use Rattle.subset_query.specs.declared.form.ColumnSet.TheVariants.{Ints, Texts}
use Rattle.subset_query.specs.declared.form.Normal.{Normal}
use Rattle.subset_query.specs.declared.form.Normal.TheVariants as forms
use Rattle.subset_query.specs.Forms.{IsSetOf, AreSetsOf, IsMany, IsManyOf, IsShownOf, IsSettled}
use Rattle.subset_query.specs.FormLaws.{shows_bytes, has_bytes, PrintsTellFormsApart}
use Rattle.subset_query.specs.Printed.{end_text, span_text, is_whole, spans_line, set_line, set_lines, shown_text, label_line, item_line, order_line, printed_form}
use Rattle.subset_query.proofs.Cells.{number_mag}
use Rattle.subset_query.proofs.Sets.{numbers, texts}
use Rattle.subset_query.proofs.SingleValues.{IsNum, IsTxt}
use Rattle.subset_query.proofs.Wholes.{back}

head_of : {X : Type 0} (x y : X) (xs ys : List X) → x ∷ xs ≡ y ∷ ys → x ≡ y
head_of x y xs ys e = cc

tail_of : {X : Type 0} (x y : X) (xs ys : List X) → x ∷ xs ≡ y ∷ ys → xs ≡ ys
tail_of x y xs ys e = cc

-- texts that begin with two bytes are two
apart : (m n : ℕ) (xs ys : List ℕ) → nat_eq m n ≡ false → m ∷ xs ≡ n ∷ ys → ⊥
apart m n xs ys h e = let same : m ≡ n = head_of m n xs ys e in grind (arith, nat_tests)

-- what stands behind a common front
after : (w r s : List ℕ) → w ++ r ≡ w ++ s → r ≡ s
after [] r s e = e
after (x ∷ w) r s e = after w r s (tail_of x x (w ++ r) (w ++ s) e)

-- the byte is not in the text
abbrev Lacks : ℕ → List ℕ → Type 0
Lacks d [] = Unit {0}
Lacks d (x ∷ xs) = (x ≢ d) × Lacks d xs

-- the byte is not the first of the text
abbrev StartsNot : ℕ → List ℕ → Type 0
StartsNot d [] = Unit {0}
StartsNot d (x ∷ xs) = x ≢ d

-- two texts are cut alike at the first place of a byte that is in neither front
cut_at : (d : ℕ) (t u r s : List ℕ) → Lacks d t → Lacks d u → t ++ (d ∷ r) ≡ u ++ (d ∷ s) → (t ≡ u) × (r ≡ s)
cut_at d [] [] r s a b e = (refl, tail_of d d r s e)
cut_at d [] (y ∷ u) r s a b e = absurd (b.0 (sym (head_of d y r (u ++ (d ∷ s)) e)))
cut_at d (x ∷ t) [] r s a b e = absurd (a.0 (head_of x d (t ++ (d ∷ r)) s e))
cut_at d (x ∷ t) (y ∷ u) r s a b e =
    let more = cut_at d t u r s a.1 b.1 (tail_of x y (t ++ (d ∷ r)) (u ++ (d ∷ s)) e) in
    (ap (λ c. c ∷ t) (head_of x y (t ++ (d ∷ r)) (u ++ (d ∷ s)) e) ∙ ap (λ ts. y ∷ ts) more.0, more.1)

-- the same, where the byte and what is behind it are still to be put together
cut_behind : (d : ℕ) (t u v w r s : List ℕ) → Lacks d t → Lacks d u → (t ++ (d ∷ v)) ++ r ≡ (u ++ (d ∷ w)) ++ s → (t ≡ u) × (v ++ r ≡ w ++ s)
cut_behind d t u v w r s a b e = cut_at d t u (v ++ r) (w ++ s) a b (sym (append_assoc t (d ∷ v) r) ∙ e ∙ append_assoc u (d ∷ w) s)

-- texts of digits

byte_below : (b : ℕ) → nat_lt b 256 ≡ true → b < 256
byte_below b e = grind (arith, nat_tests)

are_bytes : (t : List ℕ) → is_text t ≡ true → IsBytes t
are_bytes [] h i = omega arith
are_bytes (b ∷ bs) h zero = byte_below b (and_first _ _ h)
are_bytes (b ∷ bs) h (suc i) = are_bytes bs (and_second _ _ h) i

of_ok : {X E : Type 0} (a b : X) → ◌≡◌ {A = Result X E} (Ok a) (Ok b) → a ≡ b
of_ok a b e = cc

hex_same : (t u : List ℕ) → is_text t ≡ true → is_text u ≡ true → encode_lower t ≡ encode_lower u → t ≡ u
hex_same t u a b e = of_ok t u (sym (decode_of-encode_lower t (are_bytes t a)) ∙ ap decode_of e ∙ decode_of-encode_lower u (are_bytes u b))

lacks_passing : (p : ℕ → Bool) (d : ℕ) (xs : List ℕ) → AllPass p xs → p d ≡ false → Lacks d xs
lacks_passing p d [] all other = tt
lacks_passing p d (x ∷ xs) all other = (differs, lacks_passing p d xs (λ k e lt. all (suc k) e (omega arith)) other)
  where
    passes : p x ≡ true
    passes = all 0 0 (omega arith)

    differs : x ≢ d
    differs e = let both : true ≡ false = sym passes ∙ ap p e ∙ other in cc

lacks_tested : (p : ℕ → Bool) (d : ℕ) (xs : List ℕ) → list_all p xs ≡ true → p d ≡ false → Lacks d xs
lacks_tested p d [] all other = tt
lacks_tested p d (x ∷ xs) all other = (differs, lacks_tested p d xs (and_second _ _ all) other)
  where
    differs : x ≢ d
    differs e = let both : true ≡ false = sym (and_first _ _ all) ∙ ap p e ∙ other in cc

hex_lacks : (d : ℕ) (t : List ℕ) → is_text t ≡ true → is_hex_digit d ≡ false → Lacks d (encode_lower t)
hex_lacks d t h other = lacks_passing is_hex_digit d (encode_lower t) (decode_of-ok (encode_lower t) t (decode_of-encode_lower t (are_bytes t h))).1 other

digits_pass : (xs : List ℕ) → all_ascii_digits xs ≡ true → list_all is_ascii_digit xs ≡ true
digits_pass [] h = refl
digits_pass (x ∷ xs) h = ap (λ b. b && list_all is_ascii_digit xs) (and_first _ _ h) ∙ digits_pass xs (and_second _ _ h)

decimal_lacks : (d n : ℕ) → n < 2 ^ 64 → is_ascii_digit d ≡ false → Lacks d (decimal n)
decimal_lacks d n h other = lacks_tested is_ascii_digit d (decimal n) (digits_pass (decimal n) (digits_decimal (numerals_by_value (λ ds. all_ascii_digits ds ≡ true) tells_all_ascii_digits) n h)) other

number_lacks : (d : ℕ) (z : ℤ) → is_number z ≡ true → 45 ≢ d → is_ascii_digit d ≡ false → Lacks d (signed_decimal z)
number_lacks d (pos n) h minus other = let small = number_mag (pos n) h in decimal_lacks d n (omega arith) other
number_lacks d (negsuc n) h minus other = let small = number_mag (negsuc n) h in (minus, decimal_lacks d (suc n) (omega arith) other)

number_same : (y z : ℤ) → is_number y ≡ true → is_number z ≡ true → signed_decimal y ≡ signed_decimal z → y ≡ z
number_same y z f g e = signed_decimal_injective y z (number_mag y f) (number_mag z g) e

-- labels

label_cut : (l m r s : List ℕ) → is_text l ≡ true → is_text m ≡ true → label_line l ++ r ≡ label_line m ++ s → (l ≡ m) × (r ≡ s)
label_cut l m r s a b e =
    let k = cut_behind 10 (encode_lower l) (encode_lower m) [] [] r s (hex_lacks 10 l a refl) (hex_lacks 10 m b refl) (after (codes "label ") _ _ e) in
    (hex_same l m a b k.0, k.1)

labels_cut : (ls ms : List (List ℕ)) → list_all is_text ls ≡ true → list_all is_text ms ≡ true → flat_map label_line ls ≡ flat_map label_line ms → ls ≡ ms
labels_cut [] [] a b e = refl
labels_cut [] (m ∷ ms) a b e = cc
labels_cut (l ∷ ls) [] a b e = cc
labels_cut (l ∷ ls) (m ∷ ms) a b e =
    let k = label_cut l m (flat_map label_line ls) (flat_map label_line ms) (and_first _ _ a) (and_first _ _ b) e in
    ap (λ x. x ∷ ls) k.0 ∙ ap (λ xs. m ∷ xs) (labels_cut ls ms (and_second _ _ a) (and_second _ _ b) k.1)

-- items

-- what an item shows can be printed: a column with a number that is small enough, or bytes
abbrev IsPrintable : Shown → Type 0
IsPrintable (Column i) = i < 2 ^ 64
IsPrintable (Constant bs) = is_text bs ≡ true

shown_cut : (a b : Shown) (v w r s : List ℕ) → IsPrintable a → IsPrintable b → (shown_text a ++ (32 ∷ v)) ++ r ≡ (shown_text b ++ (32 ∷ w)) ++ s → (a ≡ b) × (v ++ r ≡ w ++ s)
shown_cut (Column i) (Column j) v w r s f g e =
    let k = cut_behind 32 (decimal i) (decimal j) v w r s (decimal_lacks 32 i f refl) (decimal_lacks 32 j g refl) (after (codes "column ") _ _ e) in
    (ap Column (decimal_injective i j f g k.0), k.1)
shown_cut (Column i) (Constant bs) v w r s f g e = absurd (apart 108 110 _ _ refl (after (codes "co") _ _ e))
shown_cut (Constant bs) (Column j) v w r s f g e = absurd (apart 110 108 _ _ refl (after (codes "co") _ _ e))
shown_cut (Constant bs) (Constant cs) v w r s f g e =
    let k = cut_behind 32 (encode_lower bs) (encode_lower cs) v w r s (hex_lacks 32 bs f refl) (hex_lacks 32 cs g refl) (after (codes "constant ") _ _ e) in
    (ap Constant (hex_same bs cs f g k.0), k.1)

record IsPrintableItem (i : Item) : Type 0 where
  shown : IsPrintable i.what
  label : is_text i.label ≡ true

item_cut : (i j : Item) (r s : List ℕ) → IsPrintableItem i → IsPrintableItem j → item_line i ++ r ≡ item_line j ++ s → (i ≡ j) × (r ≡ s)
item_cut i j r s f g e =
    let shown = shown_cut i.what j.what (label_line i.label) (label_line j.label) r s f.shown g.shown (after (codes "item ") _ _ e) in
    let label = label_cut i.label j.label r s f.label g.label shown.1 in
    (ap (λ l. record { label = l; what = i.what }) label.0 ∙ ap (λ x. record { label = j.label; what = x }) shown.0, label.1)

items_cut : (is js : List Item) (r s : List ℕ) → AllByRecursion IsPrintableItem is → AllByRecursion IsPrintableItem js → StartsNot 105 r → StartsNot 105 s → flat_map item_line is ++ r ≡ flat_map item_line js ++ s → (is ≡ js) × (r ≡ s)
items_cut [] [] r s f g no_r no_s e = (refl, e)
items_cut [] (j ∷ js) r s f g no_r no_s e = absurd (subst (StartsNot 105) e no_r refl)
items_cut (i ∷ is) [] r s f g no_r no_s e = absurd (subst (StartsNot 105) (sym e) no_s refl)
items_cut (i ∷ is) (j ∷ js) r s f g no_r no_s e =
    let one = item_cut i j (flat_map item_line is ++ r) (flat_map item_line js ++ s) f.0 g.0 (sym (append_assoc (item_line i) (flat_map item_line is) r) ∙ e ∙ append_assoc (item_line j) (flat_map item_line js) s) in
    let more = items_cut is js r s f.1 g.1 no_r no_s one.1 in
    (ap (λ x. x ∷ is) one.0 ∙ ap (λ xs. j ∷ xs) more.0, more.1)

-- orders

order_cut : (i j : ℕ) (a b : Bool) (r s : List ℕ) → i < 2 ^ 64 → j < 2 ^ 64
    → (decimal i ++ (if a then codes " desc\n" else codes " asc\n")) ++ r ≡ (decimal j ++ (if b then codes " desc\n" else codes " asc\n")) ++ s → (i ≡ j) × (a ≡ b) × (r ≡ s)
order_cut i j true true r s f g e =
    let k = cut_behind 32 (decimal i) (decimal j) (codes "desc\n") (codes "desc\n") r s (decimal_lacks 32 i f refl) (decimal_lacks 32 j g refl) e in
    (decimal_injective i j f g k.0, refl, after (codes "desc\n") r s k.1)
order_cut i j false false r s f g e =
    let k = cut_behind 32 (decimal i) (decimal j) (codes "asc\n") (codes "asc\n") r s (decimal_lacks 32 i f refl) (decimal_lacks 32 j g refl) e in
    (decimal_injective i j f g k.0, refl, after (codes "asc\n") r s k.1)
order_cut i j true false r s f g e =
    let k = cut_behind 32 (decimal i) (decimal j) (codes "desc\n") (codes "asc\n") r s (decimal_lacks 32 i f refl) (decimal_lacks 32 j g refl) e in
    absurd (apart 100 97 _ _ refl k.1)
order_cut i j false true r s f g e =
    let k = cut_behind 32 (decimal i) (decimal j) (codes "asc\n") (codes "desc\n") r s (decimal_lacks 32 i f refl) (decimal_lacks 32 j g refl) e in
    absurd (apart 97 100 _ _ refl k.1)

orders_cut : (ds es : List Dir) → AllByRecursion (λ (d : Dir). d.column < 2 ^ 64) ds → AllByRecursion (λ (d : Dir). d.column < 2 ^ 64) es → flat_map order_line ds ≡ flat_map order_line es → ds ≡ es
orders_cut [] [] f g e = refl
orders_cut [] (d ∷ es) f g e = cc
orders_cut (d ∷ ds) [] f g e = cc
orders_cut (c ∷ cs) (d ∷ ds) f g e =
    let k = order_cut c.column d.column c.down d.down (flat_map order_line cs) (flat_map order_line ds) f.0 g.0 (after (codes "order ") _ _ e) in
    ap (λ n. record { column = n; down = c.down } ∷ cs) k.0 ∙ ap (λ b. record { column = d.column; down = b } ∷ cs) k.1 ∙ ap (λ xs. d ∷ xs) (orders_cut cs ds f.1 g.1 k.2)

-- sets

-- no line of the column with this number is a front of the text
abbrev NoLine : ℕ → List ℕ → Type 0
NoLine n r = (v : List ℕ) → r ≡ codes "column " ++ (decimal n ++ (32 ∷ v)) → ⊥

module _ {P : Type 0} (valid : P → Type 0) (cmp : P → P → Ordering) (line : IsLine cmp) (least : P) (least_valid : valid least) (from_least : (x : P) → valid x → cmp x least ≢ Less) (spell : P → List ℕ)
    (no_comma : (p : P) → valid p → Lacks 44 (spell p)) (no_bracket : (p : P) → valid p → Lacks 41 (spell p))
    (same : (p q : P) → valid p → valid q → spell p ≡ spell q → p ≡ q) (no_word : (p : P) → valid p → spell p ≢ codes "none") where
  abbrev IsValidEnd : Option P → Type 0
  IsValidEnd None = Unit {0}
  IsValidEnd (Some h) = valid h

  abbrev IsValidSpan : Span P → Type 0
  IsValidSpan s = valid s.low × IsValidEnd s.high

  valid_end : (low : P) (high : Option P) → IsEnd valid cmp low high → IsValidEnd high
  valid_end low None h = tt
  valid_end low (Some p) h = h.0

  valid_spans : (ss : List (Span P)) → IsCanonical valid cmp ss → AllByRecursion IsValidSpan ss
  valid_spans [] h = tt
  valid_spans (s ∷ []) h = ((h.low, valid_end s.low s.high h.high), tt)
  valid_spans (s ∷ t ∷ ts) h = ((h.0.low, valid_end s.low s.high h.0.high), valid_spans (t ∷ ts) h.2)

  end_lacks : (o : Option P) → IsValidEnd o → Lacks 41 (end_text spell o)
  end_lacks None h = (λ e. omega (arith, e), (λ e. omega (arith, e), (λ e. omega (arith, e), (λ e. omega (arith, e), tt))))
  end_lacks (Some p) h = no_bracket p h

  end_same : (o p : Option P) → IsValidEnd o → IsValidEnd p → end_text spell o ≡ end_text spell p → o ≡ p
  end_same None None f g e = refl
  end_same None (Some p) f g e = absurd (no_word p g (sym e))
  end_same (Some o) None f g e = absurd (no_word o f e)
  end_same (Some o) (Some p) f g e = ap Some (same o p f g e)

  span_cut : (s t : Span P) (r u : List ℕ) → IsValidSpan s → IsValidSpan t → span_text spell s ++ r ≡ span_text spell t ++ u → (s ≡ t) × (r ≡ u)
  span_cut s t r u f g e =
      let low = cut_behind 44 (spell s.low) (spell t.low) (end_text spell s.high ++ codes ")") (end_text spell t.high ++ codes ")") r u (no_comma s.low f.0) (no_comma t.low g.0) (after (codes " [") _ _ e) in
      let high = cut_behind 41 (end_text spell s.high) (end_text spell t.high) [] [] r u (end_lacks s.high f.1) (end_lacks t.high g.1) low.1 in
      (ap (λ p. record { low = p; high = s.high }) (same s.low t.low f.0 g.0 low.0) ∙ ap (λ o. record { low = t.low; high = o }) (end_same s.high t.high f.1 g.1 high.0), high.1)

  spans_cut : (ss ts : List (Span P)) (r u : List ℕ) → AllByRecursion IsValidSpan ss → AllByRecursion IsValidSpan ts → StartsNot 32 r → StartsNot 32 u
      → flat_map (span_text spell) ss ++ r ≡ flat_map (span_text spell) ts ++ u → (ss ≡ ts) × (r ≡ u)
  spans_cut [] [] r u f g no_r no_u e = (refl, e)
  spans_cut [] (t ∷ ts) r u f g no_r no_u e = absurd (subst (StartsNot 32) e no_r refl)
  spans_cut (s ∷ ss) [] r u f g no_r no_u e = absurd (subst (StartsNot 32) (sym e) no_u refl)
  spans_cut (s ∷ ss) (t ∷ ts) r u f g no_r no_u e =
      let one = span_cut s t (flat_map (span_text spell) ss ++ r) (flat_map (span_text spell) ts ++ u) f.0 g.0
      (sym (append_assoc (span_text spell s) (flat_map (span_text spell) ss) r) ∙ e ∙ append_assoc (span_text spell t) (flat_map (span_text spell) ts) u) in
      let more = spans_cut ss ts r u f.1 g.1 no_r no_u one.1 in
      (ap (λ x. x ∷ ss) one.0 ∙ ap (λ xs. t ∷ xs) more.0, more.1)

  -- what a column's spans print, where a line is printed
  abbrev printed_line : ℕ → List (Span P) → List ℕ
  printed_line n ss = codes "column " ++ (decimal n ++ (flat_map (span_text spell) ss ++ codes "\n"))

  abbrev shown_line : Bool → ℕ → List (Span P) → List ℕ
  shown_line whole n ss = if whole then [] else printed_line n ss

  line_shape : (n : ℕ) (ss : List (Span P)) (r : List ℕ) → ss ≢ [] → (v : List ℕ) × (printed_line n ss ++ r ≡ codes "column " ++ (decimal n ++ (32 ∷ v)))
  line_shape n [] r some = absurd (some refl)
  line_shape n (s ∷ ss) r some = (_, ap (λ w. codes "column " ++ w) (append_assoc (decimal n) (flat_map (span_text spell) (s ∷ ss) ++ codes "\n") r))

  -- a column's spans print nothing, or a line that begins with the column's number
  spans_shape : (n : ℕ) (ss : List (Span P)) (r : List ℕ) → ss ≢ [] → (spans_line cmp least spell n ss ++ r ≡ r) ⊎ ((v : List ℕ) × (spans_line cmp least spell n ss ++ r ≡ codes "column " ++ (decimal n ++ (32 ∷ v))))
  spans_shape n ss r some = by (is_whole cmp least ss)
    where
      by : (b : Bool) → (shown_line b n ss ++ r ≡ r) ⊎ ((v : List ℕ) × (shown_line b n ss ++ r ≡ codes "column " ++ (decimal n ++ (32 ∷ v))))
      by true = inl refl
      by false = inr (line_shape n ss r some)

  spans_line_cut : (n : ℕ) (ss ts : List (Span P)) (r u : List ℕ) → IsCanonical valid cmp ss → IsCanonical valid cmp ts → ss ≢ [] → ts ≢ [] → NoLine n r → NoLine n u
      → spans_line cmp least spell n ss ++ r ≡ spans_line cmp least spell n ts ++ u → (ss ≡ ts) × (r ≡ u)
  spans_line_cut n ss ts r u c d some_s some_t no_r no_u e = by (is_whole cmp least ss) (is_whole cmp least ts) refl refl e
    where
      by : (a b : Bool) → is_whole cmp least ss ≡ a → is_whole cmp least ts ≡ b → shown_line (is_whole cmp least ss) n ss ++ r ≡ shown_line (is_whole cmp least ts) n ts ++ u → (ss ≡ ts) × (r ≡ u)
      by true true f g h = (back valid cmp line least least_valid from_least ss f ∙ sym (back valid cmp line least least_valid from_least ts g), sym (ap (λ w. shown_line w n ss ++ r) f) ∙ h ∙ ap (λ w. shown_line w n ts ++ u) g)
      by true false f g h =
          let (v, is) = line_shape n ts u some_t in
          absurd (no_r v (sym (ap (λ w. shown_line w n ss ++ r) f) ∙ h ∙ ap (λ w. shown_line w n ts ++ u) g ∙ is))
      by false true f g h =
          let (v, is) = line_shape n ss r some_s in
          absurd (no_u v (sym (ap (λ w. shown_line w n ts ++ u) g) ∙ sym h ∙ ap (λ w. shown_line w n ss ++ r) f ∙ is))
      by false false f g h =
          let lines : printed_line n ss ++ r ≡ printed_line n ts ++ u = sym (ap (λ w. shown_line w n ss ++ r) f) ∙ h ∙ ap (λ w. shown_line w n ts ++ u) g in
          let behind = after (decimal n) ((flat_map (span_text spell) ss ++ codes "\n") ++ r) ((flat_map (span_text spell) ts ++ codes "\n") ++ u)
          (sym (append_assoc (decimal n) (flat_map (span_text spell) ss ++ codes "\n") r) ∙ after (codes "column ") _ _ lines ∙ append_assoc (decimal n) (flat_map (span_text spell) ts ++ codes "\n") u) in
          let k = spans_cut ss ts (10 ∷ r) (10 ∷ u) (valid_spans ss c) (valid_spans ts d) (λ x. omega (arith, x)) (λ x. omega (arith, x))
          (sym (append_assoc (flat_map (span_text spell) ss) (10 ∷ []) r) ∙ behind ∙ append_assoc (flat_map (span_text spell) ts) (10 ∷ []) u) in
          (k.0, tail_of 10 10 r u k.1)

-- the word for no end is neither a number nor digits
number_no_word : (z : ℤ) → IsNum z → signed_decimal z ≢ codes "none"
number_no_word z h e = (subst (Lacks 110) e (number_lacks 110 z h (λ x. omega (arith, x)) refl)).0 refl

text_no_word : (t : List ℕ) → IsTxt t → encode_lower t ≢ codes "none"
text_no_word t h e = (subst (Lacks 110) e (hex_lacks 110 t h refl)).0 refl

number_cut : (n : ℕ) (ss ts : List (Span ℤ)) (r u : List ℕ) → IsCanonical IsNum int_cmp ss → IsCanonical IsNum int_cmp ts → ss ≢ [] → ts ≢ [] → NoLine n r → NoLine n u
    → spans_line int_cmp least_number signed_decimal n ss ++ r ≡ spans_line int_cmp least_number signed_decimal n ts ++ u → (ss ≡ ts) × (r ≡ u)
number_cut = spans_line_cut IsNum int_cmp numbers least_number least_number_valid number_least signed_decimal (λ z h. number_lacks 44 z h (λ x. omega (arith, x)) refl) (λ z h. number_lacks 41 z h (λ x. omega (arith, x)) refl) number_same number_no_word

number_shape : (n : ℕ) (ss : List (Span ℤ)) (r : List ℕ) → ss ≢ [] → (spans_line int_cmp least_number signed_decimal n ss ++ r ≡ r) ⊎ ((v : List ℕ) × (spans_line int_cmp least_number signed_decimal n ss ++ r ≡ codes "column " ++ (decimal n ++ (32 ∷ v))))
number_shape = spans_shape IsNum int_cmp numbers least_number least_number_valid number_least signed_decimal (λ z h. number_lacks 44 z h (λ x. omega (arith, x)) refl) (λ z h. number_lacks 41 z h (λ x. omega (arith, x)) refl) number_same number_no_word

text_cut : (n : ℕ) (ss ts : List (Span (List ℕ))) (r u : List ℕ) → IsCanonical IsTxt text_cmp ss → IsCanonical IsTxt text_cmp ts → ss ≢ [] → ts ≢ [] → NoLine n r → NoLine n u
    → spans_line text_cmp [] encode_lower n ss ++ r ≡ spans_line text_cmp [] encode_lower n ts ++ u → (ss ≡ ts) × (r ≡ u)
text_cut = spans_line_cut IsTxt text_cmp texts [] refl text_least encode_lower (λ t h. hex_lacks 44 t h refl) (λ t h. hex_lacks 41 t h refl) hex_same text_no_word

text_shape : (n : ℕ) (ss : List (Span (List ℕ))) (r : List ℕ) → ss ≢ [] → (spans_line text_cmp [] encode_lower n ss ++ r ≡ r) ⊎ ((v : List ℕ) × (spans_line text_cmp [] encode_lower n ss ++ r ≡ codes "column " ++ (decimal n ++ (32 ∷ v))))
text_shape = spans_shape IsTxt text_cmp texts [] refl text_least encode_lower (λ t h. hex_lacks 44 t h refl) (λ t h. hex_lacks 41 t h refl) hex_same text_no_word

set_cut : (k : Kind) (n : ℕ) (s t : ColumnSet) (r u : List ℕ) → IsSetOf k s → IsSetOf k t → NoLine n r → NoLine n u → set_line n s ++ r ≡ set_line n t ++ u → (s ≡ t) × (r ≡ u)
set_cut kinds.Int n (Ints ss) (Ints ts) r u c d no_r no_u e = let k = number_cut n ss ts r u c.0 d.0 c.1 d.1 no_r no_u e in (ap Ints k.0, k.1)
set_cut kinds.Int n (Ints ss) (Texts ts) r u c d no_r no_u e = absurd d
set_cut kinds.Int n (Texts ss) t r u c d no_r no_u e = absurd c
set_cut kinds.Text n (Ints ss) t r u c d no_r no_u e = absurd c
set_cut kinds.Text n (Texts ss) (Ints ts) r u c d no_r no_u e = absurd d
set_cut kinds.Text n (Texts ss) (Texts ts) r u c d no_r no_u e = let k = text_cut n ss ts r u c.0 d.0 c.1 d.1 no_r no_u e in (ap Texts k.0, k.1)

-- what a set prints is nothing, or a line that begins with its column's number
set_shape : (k : Kind) (n : ℕ) (s : ColumnSet) (r : List ℕ) → IsSetOf k s → (set_line n s ++ r ≡ r) ⊎ ((v : List ℕ) × (set_line n s ++ r ≡ codes "column " ++ (decimal n ++ (32 ∷ v))))
set_shape kinds.Int n (Ints ss) r c = number_shape n ss r c.1
set_shape kinds.Int n (Texts ss) r c = absurd c
set_shape kinds.Text n (Ints ss) r c = absurd c
set_shape kinds.Text n (Texts ss) r c = text_shape n ss r c.1

-- the lines of later columns are not the line of this one
later : (cs : List schema_column.Column) (n m : ℕ) (ss : List ColumnSet) (r : List ℕ) → n < m → m + length cs < 2 ^ 64 → AreSetsOf cs ss → StartsNot 99 r → NoLine n (set_lines m ss ++ r)
later [] n m [] r lt small h no_r = λ v e. subst (StartsNot 99) e no_r refl
later [] n m (s ∷ ss) r lt small h no_r = absurd h
later (c ∷ cs) n m [] r lt small h no_r = absurd h
later (c ∷ cs) n m (s ∷ ss) r lt small h no_r = λ v e. by v (set_shape c.kind m s (set_lines (m + 1) ss ++ r) h.0) (sym (append_assoc (set_line m s) (set_lines (m + 1) ss) r) ∙ e) (later cs n (m + 1) ss r (omega arith) (omega arith) h.1 no_r)
  where
    by : (v : List ℕ) → (set_line m s ++ (set_lines (m + 1) ss ++ r) ≡ set_lines (m + 1) ss ++ r) ⊎ ((w : List ℕ) × (set_line m s ++ (set_lines (m + 1) ss ++ r) ≡ codes "column " ++ (decimal m ++ (32 ∷ w))))
        → set_line m s ++ (set_lines (m + 1) ss ++ r) ≡ codes "column " ++ (decimal n ++ (32 ∷ v)) → NoLine n (set_lines (m + 1) ss ++ r) → ⊥
    by v (inl none) e more = more v (sym none ∙ e)
    by v (inr (w, is)) e more =
        let k = cut_at 32 (decimal m) (decimal n) w v (decimal_lacks 32 m (omega arith) refl) (decimal_lacks 32 n (omega arith) refl) (after (codes "column ") _ _ (sym is ∙ e)) in
        let one = decimal_injective m n (omega arith) (omega arith) k.0 in
        omega arith

sets_cut : (cs : List schema_column.Column) (n : ℕ) (ss ts : List ColumnSet) (r u : List ℕ) → AreSetsOf cs ss → AreSetsOf cs ts → n + length cs < 2 ^ 64 → StartsNot 99 r → StartsNot 99 u
    → set_lines n ss ++ r ≡ set_lines n ts ++ u → (ss ≡ ts) × (r ≡ u)
sets_cut [] n [] [] r u f g small no_r no_u e = (refl, e)
sets_cut [] n [] (t ∷ ts) r u f g small no_r no_u e = absurd g
sets_cut [] n (s ∷ ss) ts r u f g small no_r no_u e = absurd f
sets_cut (c ∷ cs) n [] ts r u f g small no_r no_u e = absurd f
sets_cut (c ∷ cs) n (s ∷ ss) [] r u f g small no_r no_u e = absurd g
sets_cut (c ∷ cs) n (s ∷ ss) (t ∷ ts) r u f g small no_r no_u e =
    let one = set_cut c.kind n s t (set_lines (n + 1) ss ++ r) (set_lines (n + 1) ts ++ u) f.0 g.0
    (later cs n (n + 1) ss r (omega arith) (omega arith) f.1 no_r) (later cs n (n + 1) ts u (omega arith) (omega arith) g.1 no_u)
    (sym (append_assoc (set_line n s) (set_lines (n + 1) ss) r) ∙ e ∙ append_assoc (set_line n t) (set_lines (n + 1) ts) u) in
    let more = sets_cut cs (n + 1) ss ts r u f.1 g.1 (omega arith) no_r no_u one.1 in
    (ap (λ x. x ∷ ss) one.0 ∙ ap (λ xs. t ∷ xs) more.0, more.1)

-- whole forms

many_within : (cs : List schema_column.Column) (ss : List ColumnSet) (i : ℕ) → IsMany cs ss i → i < length cs
many_within [] ss i h = absurd h
many_within (c ∷ cs) ss zero h = omega arith
many_within (c ∷ cs) [] (suc i) h = by (slice_get cs i) h
  where
    by : (o : Option schema_column.Column) → IsManyOf o None → suc i < length (c ∷ cs)
    by None k = absurd k
    by (Some d) k = absurd k
many_within (c ∷ cs) (s ∷ ss) (suc i) h = let more = many_within cs ss i h in omega arith

printable : (cs : List schema_column.Column) (ss : List ColumnSet) (is : List Item) → length cs ≤ 64 → AllByRecursion (λ (i : Item). IsShownOf cs ss i.what) is → list_all (λ i. is_text i.label && shows_bytes i.what) is ≡ true → AllByRecursion IsPrintableItem is
printable cs ss [] few h bytes = tt
printable cs ss (i ∷ is) few h bytes =
    (record { shown = by i.what h.0 (and_second (is_text i.label) (shows_bytes i.what) (and_first _ _ bytes)); label = and_first (is_text i.label) (shows_bytes i.what) (and_first _ _ bytes) }, printable cs ss is few h.1 (and_second _ _ bytes))
  where
    by : (what : Shown) → IsShownOf cs ss what → shows_bytes what ≡ true → IsPrintable what
    by (Column c) k b = let within = many_within cs ss c k in omega arith
    by (Constant bs) k b = b

small_orders : (cs : List schema_column.Column) (ss : List ColumnSet) (order : List Dir) → length cs ≤ 64 → ((front : List Dir) (d : Dir) (back : List Dir) → order ≡ front ++ (d ∷ back) → IsMany cs ss d.column) → AllByRecursion (λ (d : Dir). d.column < 2 ^ 64) order
small_orders cs ss [] few h = tt
small_orders cs ss (d ∷ ds) few h =
    let within = many_within cs ss d.column (h [] d ds refl) in
    (omega arith, small_orders cs ss ds few (λ front e back is. h (d ∷ front) e back (ap (λ xs. d ∷ xs) is)))

no_item : (order : List Dir) → StartsNot 105 (flat_map order_line order)
no_item [] = tt
no_item (d ∷ ds) = λ e. omega (arith, e)

no_column : (is : List Item) (order : List Dir) → StartsNot 99 (flat_map item_line is ++ flat_map order_line order)
no_column [] [] = tt
no_column [] (d ∷ ds) = λ e. omega (arith, e)
no_column (i ∷ is) order = λ e. omega (arith, e)

told_apart : (cs : List schema_column.Column) (a b : Normal) → length cs ≤ 64 → IsSettled cs a → IsSettled cs b → has_bytes a ≡ true → has_bytes b ≡ true → printed_form a ≡ printed_form b → a ≡ b
told_apart cs (forms.Nothing ls) (forms.Nothing ms) few f g x y e = ap forms.Nothing (labels_cut ls ms x y (after (codes "none\n") _ _ e))
told_apart cs (forms.Nothing ls) (forms.Some ts js es) few f g x y e = absurd (apart 110 115 _ _ refl e)
told_apart cs (forms.Some ss is ds) (forms.Nothing ms) few f g x y e = absurd (apart 115 110 _ _ refl e)
told_apart cs (forms.Some ss is ds) (forms.Some ts js es) few f g x y e =
    let sets = sets_cut cs 0 ss ts (flat_map item_line is ++ flat_map order_line ds) (flat_map item_line js ++ flat_map order_line es) f.sets_fit g.sets_fit (omega arith) (no_column is ds) (no_column js es) (after (codes "some\n") _ _ e) in
    let items = items_cut is js (flat_map order_line ds) (flat_map order_line es) (printable cs ss is few f.items_many x) (printable cs ts js few g.items_many y) (no_item ds) (no_item es) sets.1 in
    let orders = orders_cut ds es (small_orders cs ss ds few (λ front d back h. (f.order_fits.each front d back h).many)) (small_orders cs ts es few (λ front d back h. (g.order_fits.each front d back h).many)) items.1 in
    ap (λ s. forms.Some s is ds) sets.0 ∙ ap (λ i. forms.Some ts i ds) items.0 ∙ ap (λ o. forms.Some ts js o) orders

few_columns : (cs : List schema_column.Column) → is_heading cs ≡ true → length cs ≤ 64
few_columns cs h = by (length cs == 0) (nat_lt 64 (length cs)) refl h
  where
    by : (none many : Bool) → nat_lt 64 (length cs) ≡ many → is_none (if none then Some NoColumns else (if many then Some TooManyColumns else name_fault [] cs)) ≡ true → length cs ≤ 64
    by true many is e = cc
    by false true is e = cc
    by false false is e = grind (arith, nat_tests)

-- settled forms of a schema whose labels and constants are bytes are equal exactly where their prints are
pub prints_tell_forms_apart : PrintsTellFormsApart
prints_tell_forms_apart cs a b heading f g x y = (λ e. told_apart cs a b (few_columns cs heading) f g x y e, λ e. ap printed_form e)
