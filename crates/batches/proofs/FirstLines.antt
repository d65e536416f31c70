-- The first line that breaks a rule, and lines that break none.
use Rattle.std.proofs.Common.{◌≡◌, ◌≢◌, ◌<◌, ◌+◌, ◌↔◌, ℕ, zero, suc, Bool, true, false, not, List, [], ◌∷◌, ◌++◌, Result, get_or, length, refl, sym, ap, ◌∙◌, subst, arith, append_assoc, append-nil, length-append}
use Rattle.std.specs.Prelude.{Ok, Err, ◌||◌}
use Rattle.std.specs.Ordering.{is_eq}
use Rattle.std.specs.declared.cmp.Ordering.{Ordering}
use Rattle.std.specs.declared.cmp.Ordering.TheVariants.{Less, Equal, Greater}
use Rattle.std.proofs.Math.Seq.{get_or-append_seam}
use Rattle.std.proofs.lemmas.List.Quantifiers.{all_pairs_push}
use Rattle.cite_schema.specs.declared.schema.Column.{Column}
use Rattle.cite_schema.specs.declared.line.Line.{Line}
use Rattle.cite_schema.specs.Tables.{cell_cmp}
use Rattle.cite_schema.specs.Lines.{key_in}
use Rattle.cite_schema.specs.Tests.{demand, given}
use Rattle.cite_schema.proofs.Results.{demanded, gave}
use Rattle.batches.specs.declared.fault.BatchFault.{BatchFault}
use Rattle.batches.specs.declared.fault.BatchFault.TheVariants.{KeyTwice}
use Rattle.batches.specs.Bodies.{line_in, names_key_of, lines_from}
use Rattle.batches.specs.Laws.{AreLines, NameOwnKeys, line_behind, IsFirstBroken}

-- Lines with keys of their own.

none_own : NameOwnKeys []
none_own i j d below within = absurd (omega arith)

neither : (a b : Bool) → (a || b) ≡ false → (a ≡ false) × (b ≡ false)
neither true b e = absurd (cc)
neither false b e = (refl, e)

none_tied : (lines : List Line) (line : Line) → names_key_of lines line ≡ false → (k : ℕ) (d : Line) → k < length lines → cell_cmp (key_in (get_or lines k d)) (key_in line) ≢ Equal
none_tied [] line none k d within e = absurd (omega arith)
none_tied (l ∷ ls) line none zero d within e = let told = ap is_eq e in let here = (neither (is_eq (cell_cmp (key_in l) (key_in line))) (names_key_of ls line) none).0 in absurd (cc)
none_tied (l ∷ ls) line none (suc k) d within e = none_tied ls line (neither (is_eq (cell_cmp (key_in l) (key_in line))) (names_key_of ls line) none).1 k d (omega arith) e

-- a line whose key none of them names
own_more : (lines : List Line) (line : Line) → names_key_of lines line ≡ false → NameOwnKeys lines → NameOwnKeys (lines ++ line ∷ [])
own_more lines line none apart = all_pairs_push (λ l m. cell_cmp (key_in l) (key_in m) ≢ Equal) lines line apart (none_tied lines line none)

untied : (o : Ordering) → o ≢ Equal → is_eq o ≡ false
untied Less other = refl
untied Greater other = refl
untied Equal other = absurd (other refl)

-- none of them names the key of a later one
pub key_of_own : (before : List Line) (line : Line) (rest : List Line) → NameOwnKeys (before ++ line ∷ rest) → names_key_of before line ≡ false
key_of_own [] line rest apart = refl
key_of_own (l ∷ ls) line rest apart =
    let n = length-append ls (line ∷ rest) in
    let here : cell_cmp (key_in l) (key_in line) ≢ Equal = subst (λ (m : Line). cell_cmp (key_in l) (key_in m) ≢ Equal) (get_or-append_seam ls line rest l) (apart 0 (suc (length ls)) l (omega arith) (omega (arith, n))) in
    rw (untied (cell_cmp (key_in l) (key_in line)) here) (key_of_own ls line rest (λ i j d lt le. apart (suc i) (suc j) d (omega arith) (omega arith)))

-- What a record says behind some lines, and what the records behind it say.

passed : {A B F : Type 0} (b : Bool) (fault : F) (x : A) (rest : A → Result B F) → demand b fault (rest x) ≡ given (demand b fault (Ok x)) (λ f. f) rest
passed true fault x rest = refl
passed false fault x rest = refl

is_new : (b : Bool) → not b ≡ true → b ≡ false
is_new true e = absurd (cc)
is_new false e = refl

faulted : {A B F : Type 0} (r : Result A F) (rest : A → B) (fault : F) → given r (λ f. f) (λ x. Ok (rest x)) ≡ Err fault → r ≡ Err fault
faulted (Ok x) rest fault e = absurd (cc)
faulted (Err f) rest fault e = let same : f ≡ fault = cc in ap Err same

module _ (columns : List Column) where
  -- the lines of one record and of others
  with_first : List Line → ℕ → List (List (List ℕ)) → Result Line BatchFault → Result (List Line) BatchFault
  with_first before n rs first = given first (λ f. f) (λ line. given (lines_from columns (before ++ line ∷ []) (n + 1) rs) (λ f. f) (λ lines. Ok (line ∷ lines)))

  first_then : (before : List Line) (n : ℕ) (r : List (List ℕ)) (rs : List (List (List ℕ))) → lines_from columns before n (r ∷ rs) ≡ with_first before n rs (line_behind columns before n r)
  unfolding with_first
  first_then before n r rs = by (line_in columns n r)
    where
      rest : Line → Result (List Line) BatchFault
      rest line = given (lines_from columns (before ++ line ∷ []) (n + 1) rs) (λ f. f) (λ lines. Ok (line ∷ lines))

      by : (o : Result Line BatchFault) → given o (λ f. f) (λ line. demand (not (names_key_of before line)) (KeyTwice n) (rest line)) ≡ given (given o (λ f. f) (λ line. demand (not (names_key_of before line)) (KeyTwice n) (Ok line))) (λ f. f) rest
      by (Err f) = refl
      by (Ok l) = passed (not (names_key_of before l)) (KeyTwice n) l rest

  err_told : (before : List Line) (n : ℕ) (rs : List (List (List ℕ))) (fault : BatchFault) → with_first before n rs (Err fault) ≡ Err fault
  unfolding with_first
  err_told before n rs fault = refl

  err_first : (before : List Line) (n : ℕ) (rs : List (List (List ℕ))) (f fault : BatchFault) → with_first before n rs (Err f) ≡ Err fault → f ≡ fault
  unfolding with_first
  err_first before n rs f fault e = cc

  err_later : (before : List Line) (n : ℕ) (rs : List (List (List ℕ))) (l : Line) (fault : BatchFault) → with_first before n rs (Ok l) ≡ Err fault → lines_from columns (before ++ l ∷ []) (n + 1) rs ≡ Err fault
  unfolding with_first
  err_later before n rs l fault e = faulted (lines_from columns (before ++ l ∷ []) (n + 1) rs) (λ lines. l ∷ lines) fault e

  -- a record that spells a line with a key of its own spells it by itself
  stands : (before : List Line) (n : ℕ) (r : List (List ℕ)) (l : Line) → line_behind columns before n r ≡ Ok l → (line_in columns n r ≡ Ok l) × (names_key_of before l ≡ false)
  stands before n r l e =
      let (line, spelled, own) = gave (line_in columns n r) (λ f. f) (λ line. demand (not (names_key_of before line)) (KeyTwice n) (Ok line)) l e in
      let (new, last) = demanded (not (names_key_of before line)) (KeyTwice n) (Ok line) l own in
      let same : line ≡ l = cc in
      (spelled ∙ last, ap (names_key_of before) (sym same) ∙ is_new (names_key_of before line) new)

  stood : (before : List Line) (n : ℕ) (r : List (List ℕ)) (l : Line) → line_in columns n r ≡ Ok l → names_key_of before l ≡ false → line_behind columns before n r ≡ Ok l
  stood before n r l spelled new = rw (spelled, new) refl

  -- what the others say is told with its line before it
  ok_then : (before : List Line) (n : ℕ) (r : List (List ℕ)) (rs : List (List (List ℕ))) (l : Line) (rest : Result (List Line) BatchFault) → line_in columns n r ≡ Ok l → names_key_of before l ≡ false
      → lines_from columns (before ++ l ∷ []) (n + 1) rs ≡ rest → lines_from columns before n (r ∷ rs) ≡ given rest (λ f. f) (λ lines. Ok (l ∷ lines))
  unfolding with_first
  ok_then before n r rs l rest spelled new more = first_then before n r rs ∙ ap (with_first before n rs) (stood before n r l spelled new) ∙ ap (λ o. given o (λ f. f) (λ lines. Ok (l ∷ lines))) more

  -- the first record that breaks a rule behind some lines
  record IsFound (earlier : List Line) (n : ℕ) (records : List (List (List ℕ))) (fault : BatchFault) : Type 0 where
    before : List (List (List ℕ))
    fields : List (List ℕ)
    after : List (List (List ℕ))
    parts : records ≡ before ++ fields ∷ after
    lines : List Line
    spelled : AreLines columns n before lines
    apart : NameOwnKeys (earlier ++ lines)
    breaks : line_behind columns (earlier ++ lines) (n + length lines) fields ≡ Err fault

  found : (records : List (List (List ℕ))) (earlier : List Line) (n : ℕ) (fault : BatchFault) → NameOwnKeys earlier → lines_from columns earlier n records ≡ Err fault → IsFound earlier n records fault
  found [] earlier n fault apart e = absurd (cc)
  found (r ∷ rs) earlier n fault apart e =
      by (line_behind columns earlier n r) refl (sym (first_then earlier n r rs) ∙ e) (λ more own told. found rs more (n + 1) fault own told)
    where
      by : (o : Result Line BatchFault) → line_behind columns earlier n r ≡ o → with_first earlier n rs (line_behind columns earlier n r) ≡ Err fault
          → ((more : List Line) → NameOwnKeys more → lines_from columns more (n + 1) rs ≡ Err fault → IsFound more (n + 1) rs fault) → IsFound earlier n (r ∷ rs) fault
      by (Err f) h told later =
          let same : f ≡ fault = err_first earlier n rs f fault (ap (with_first earlier n rs) (sym h) ∙ told) in
          let here : n + 0 ≡ n = omega arith in
          record {
            before = [];
            fields = r;
            after = rs;
            parts = refl;
            lines = [];
            spelled = tt;
            apart = subst (λ (l : List Line). NameOwnKeys l) (sym (append-nil earlier)) apart;
            breaks = ap (λ l. line_behind columns l (n + 0) r) (append-nil earlier) ∙ ap (λ k. line_behind columns earlier k r) here ∙ h ∙ ap Err same;
          }
      by (Ok l) h told later =
          let (spelled, new) = stands earlier n r l h in
          let g = later (earlier ++ l ∷ []) (own_more earlier l new apart) (err_later earlier n rs l fault (ap (with_first earlier n rs) (sym h) ∙ told)) in
          let whole = append_assoc earlier (l ∷ []) g.lines in
          let number : n + suc (length g.lines) ≡ n + 1 + length g.lines = omega arith in
          record {
            before = r ∷ g.before;
            fields = g.fields;
            after = g.after;
            parts = ap (λ t. r ∷ t) g.parts;
            lines = l ∷ g.lines;
            spelled = (spelled, g.spelled);
            apart = subst (λ (t : List Line). NameOwnKeys t) whole g.apart;
            breaks = ap (λ t. line_behind columns t (n + suc (length g.lines)) g.fields) (sym whole) ∙ ap (λ k. line_behind columns ((earlier ++ l ∷ []) ++ g.lines) k g.fields) number ∙ g.breaks;
          }

  told_first : (before : List (List (List ℕ))) (earlier : List Line) (n : ℕ) (fields : List (List ℕ)) (after : List (List (List ℕ))) (lines : List Line) (fault : BatchFault) → AreLines columns n before lines → NameOwnKeys (earlier ++ lines)
      → line_behind columns (earlier ++ lines) (n + length lines) fields ≡ Err fault → lines_from columns earlier n (before ++ fields ∷ after) ≡ Err fault
  told_first [] earlier n fields after [] fault spelled apart breaks =
      let here : n ≡ n + 0 = omega arith in
      let broken = ap (λ t. line_behind columns t n fields) (sym (append-nil earlier)) ∙ ap (λ k. line_behind columns (earlier ++ []) k fields) here ∙ breaks in
      first_then earlier n fields after ∙ ap (with_first earlier n after) broken ∙ err_told earlier n after fault
  told_first [] earlier n fields after (l ∷ ls) fault spelled apart breaks = absurd spelled
  told_first (r ∷ rs) earlier n fields after [] fault spelled apart breaks = absurd spelled
  told_first (r ∷ rs) earlier n fields after (l ∷ ls) fault spelled apart breaks =
      let whole = append_assoc earlier (l ∷ []) ls in
      let number : n + 1 + length ls ≡ n + suc (length ls) = omega arith in
      let more = told_first rs (earlier ++ l ∷ []) (n + 1) fields after ls fault spelled.1 (subst (λ (t : List Line). NameOwnKeys t) (sym whole) apart)
      (ap (λ t. line_behind columns t (n + 1 + length ls) fields) whole ∙ ap (λ k. line_behind columns (earlier ++ l ∷ ls) k fields) number ∙ breaks) in
      ok_then earlier n r (rs ++ fields ∷ after) l (Err fault) spelled.0 (key_of_own earlier l ls apart) more

  -- records that break no rule spell lines with keys of their own
  all_good : (records : List (List (List ℕ))) (earlier : List Line) (n : ℕ) (lines : List Line) → NameOwnKeys earlier → lines_from columns earlier n records ≡ Ok lines → AreLines columns n records lines × NameOwnKeys (earlier ++ lines)
  unfolding with_first
  all_good [] earlier n [] apart e = (tt, subst (λ (l : List Line). NameOwnKeys l) (sym (append-nil earlier)) apart)
  all_good [] earlier n (l ∷ ls) apart e = absurd (cc)
  all_good (r ∷ rs) earlier n lines apart e =
      let (l, h, rest) = gave (line_behind columns earlier n r) (λ f. f) (λ line. given (lines_from columns (earlier ++ line ∷ []) (n + 1) rs) (λ f. f) (λ t. Ok (line ∷ t))) lines (sym (first_then earlier n r rs) ∙ e) in
      let (ls, more, last) = gave (lines_from columns (earlier ++ l ∷ []) (n + 1) rs) (λ f. f) (λ t. Ok (l ∷ t)) lines rest in
      let (spelled, new) = stands earlier n r l h in
      let same : l ∷ ls ≡ lines = cc in
      let g = all_good rs (earlier ++ l ∷ []) (n + 1) ls (own_more earlier l new apart) more in
      subst (λ (t : List Line). AreLines columns n (r ∷ rs) t × NameOwnKeys (earlier ++ t)) same ((spelled, g.0), subst (λ (t : List Line). NameOwnKeys t) (append_assoc earlier (l ∷ []) ls) g.1)

  none_told : (records : List (List (List ℕ))) (earlier : List Line) (n : ℕ) (lines : List Line) → AreLines columns n records lines → NameOwnKeys (earlier ++ lines) → lines_from columns earlier n records ≡ Ok lines
  none_told [] earlier n [] spelled apart = refl
  none_told [] earlier n (l ∷ ls) spelled apart = absurd spelled
  none_told (r ∷ rs) earlier n [] spelled apart = absurd spelled
  none_told (r ∷ rs) earlier n (l ∷ ls) spelled apart =
      let more = none_told rs (earlier ++ l ∷ []) (n + 1) ls spelled.1 (subst (λ (t : List Line). NameOwnKeys t) (sym (append_assoc earlier (l ∷ []) ls)) apart) in
      ok_then earlier n r rs l (Ok ls) spelled.0 (key_of_own earlier l ls apart) more

  -- the fault that is told of records is that of the first that breaks a rule
  pub first_broken : (records : List (List (List ℕ))) (fault : BatchFault) → ((lines_from columns [] 1 records ≡ Err fault) ↔ IsFirstBroken columns records fault)
  first_broken records fault = (
    λ e. let g = found records [] 1 fault none_own e in
        let number : length g.lines + 1 ≡ 1 + length g.lines = omega arith in
        record { before = g.before; fields = g.fields; after = g.after; parts = g.parts; lines = g.lines; spelled = g.spelled; apart = g.apart; breaks = ap (λ k. line_behind columns g.lines k g.fields) number ∙ g.breaks },
    λ b. let number : 1 + length b.lines ≡ length b.lines + 1 = omega arith in
        ap (lines_from columns [] 1) b.parts ∙ told_first b.before [] 1 b.fields b.after b.lines fault b.spelled b.apart (ap (λ k. line_behind columns b.lines k b.fields) number ∙ b.breaks),
  )

  -- lines are told exactly where the records spell these, with keys of their own
  pub none_broken : (records : List (List (List ℕ))) (lines : List Line) → ((lines_from columns [] 1 records ≡ Ok lines) ↔ (AreLines columns 1 records lines × NameOwnKeys lines))
  none_broken records lines = (λ e. all_good records [] 1 lines none_own e, λ h. none_told records [] 1 lines h.0 h.1)
