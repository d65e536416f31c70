-- What `verify` tells of an archive, line by line.
use Rattle.std.proofs.Common.{◌≡◌, ◌<◌, ◌≤◌, ◌+◌, ℕ, zero, suc, List, [], ◌∷◌, ◌++◌, Some, None, length, map, take, slice_get, refl, sym, ap, ◌∙◌, subst, arith, append_assoc, append-nil, add-one, add-zero}
use Rattle.std.specs.Prelude.{Ok, Err, OnOk}
use Rattle.std.proofs.lemmas.List.{length-map}
use Rattle.std.proofs.Math.Seq.{take-length}
use Rattle.cite_schema.specs.Headings.{Heading}
use Rattle.cite_schema.specs.declared.value.Value.{Value}
use Rattle.entry_codec.specs.declared.entry.Entry.{Entry}
use Rattle.versioned_rows.specs.Histories.{RowHistory, as_of, last_table}
use Rattle.archive_model.specs.Archives.{Archive, Minted, version_count, now_table}
use Rattle.archive_model.specs.Histories.{LeadsTo}
use Rattle.archive_model.proofs.Tables.{last_table_in}
use Rattle.archive_state.specs.declared.snapshot.Snapshot.{Snapshot}
use Rattle.archive_state.specs.declared.snapshot.LookFault.TheVariants as looks
use Rattle.archive_state.specs.Executing.{Resolved, minted_as}
use Rattle.archive_state.specs.Standing.{PartsStand, AgreeParts, Shows, kept_of}
use Rattle.cite_cli.specs.Verify.{citation_line, citation_lines, counts, verify_text}
use Rattle.cite_cli.specs.Parts.{AddsCitation}

-- the lines of one citation more
lines_more : (n i : ℕ) (ms : List Minted) (m : Minted) → slice_get ms i ≡ Some m → citation_lines n (take (i + 1) ms) ≡ citation_lines n (take i ms) ++ citation_line (n + i) m
lines_more n i [] m e = absurd (cc)
lines_more n zero (x ∷ ms) m e =
    let same : x ≡ m = cc in
    append-nil (citation_line n x) ∙ ap (citation_line n) same ∙ ap (λ (k : ℕ). citation_line k m) (sym (add-zero n))
lines_more n (suc i) (x ∷ ms) m e =
    let at : n + 1 + i ≡ n + suc i = omega arith in
    ap (λ (k : ℕ). citation_lines n (take k (x ∷ ms))) (add-one (suc i))
    ∙ ap (λ (l : List ℕ). citation_line n x ++ l) (ap (λ (k : ℕ). citation_lines (n + 1) (take k ms)) (sym (add-one i)) ∙ lines_more (n + 1) i ms m e ∙ ap (λ (k : ℕ). citation_lines (n + 1) (take i ms) ++ citation_line k m) at)
    ∙ sym (append_assoc (citation_line n x) (citation_lines (n + 1) (take i ms)) (citation_line (n + suc i) m))

-- as much of the text as was told of the first citations
abbrev pub text_to : Archive → ℕ → List ℕ
text_to a n = counts (version_count a) a.last.schema.number (length a.last.table) (length a.minted) ++ citation_lines 1 (take n a.minted)

-- the next citation is told behind the others
pub text_more : (a : Archive) (i : ℕ) (old new : List ℕ) → old ≡ text_to a i → AddsCitation a (i + 1) old new → new ≡ text_to a (i + 1)
text_more a i old new so added =
    let head = counts (version_count a) a.last.schema.number (length a.last.table) (length a.minted) in
    let here : slice_get a.minted i ≡ Some added.minted = subst (λ (k : ℕ). minted_as a k ≡ Some added.minted) (add-one i) added.is in
    let number : 1 + i ≡ i + 1 = omega arith in
    added.added ∙ ap (λ (l : List ℕ). l ++ citation_line (i + 1) added.minted) so
    ∙ append_assoc head (citation_lines 1 (take i a.minted)) (citation_line (i + 1) added.minted)
    ∙ ap (λ (l : List ℕ). head ++ l) (ap (λ (k : ℕ). citation_lines 1 (take i a.minted) ++ citation_line k added.minted) (sym number) ∙ sym (lines_more 1 i a.minted added.minted here))

issued_are : (s : Snapshot) (a : Archive) → Shows s a → length s.store ≡ length a.minted
issued_are s a shows = ap length shows.parts.same ∙ length-map a.minted kept_of

some_same : (x y : List (List Value)) → Some x ≡ Some y → x ≡ y
some_same x y e = cc

-- the rows of the last version are its table
rows_are : (s : Snapshot) (a : Archive) → Shows s a → last_table s.rows ≡ a.last.table
rows_are s a shows =
    let last : s.rows.last ≡ version_count a = shows.parts.tables.last in
    let told : now_table a (version_count a) ≡ Some (as_of s.rows (version_count a)) = shows.parts.tables.tables (version_count a) (omega arith) (omega arith) in
    ap (as_of s.rows) last ∙ some_same (as_of s.rows (version_count a)) a.last.table (sym told ∙ last_table_in a.last a.older)

-- before the first citation the counts are told
pub text_begun : (s : Snapshot) (a : Archive) (text : List ℕ) → text ≡ counts s.rows.last s.schema.number (length (last_table s.rows)) (length s.store) → Shows s a → text ≡ text_to a 0
text_begun s a text e shows =
    e ∙ ap (λ (n : ℕ). counts n s.schema.number (length (last_table s.rows)) (length s.store)) shows.parts.tables.last
    ∙ ap (λ (h : Heading). counts (version_count a) h.number (length (last_table s.rows)) (length s.store)) shows.schema_is
    ∙ ap (λ (rows : List (List Value)). counts (version_count a) a.last.schema.number (length rows) (length s.store)) (rows_are s a shows)
    ∙ ap (counts (version_count a) a.last.schema.number (length a.last.table)) (issued_are s a shows)
    ∙ sym (append-nil (counts (version_count a) a.last.schema.number (length a.last.table) (length a.minted)))

-- behind the last one all is told
pub text_ended : (s : Snapshot) (a : Archive) (n : ℕ) (text : List ℕ) → n ≡ length s.store → Shows s a → text ≡ text_to a n → text ≡ verify_text a
text_ended s a n text e shows so =
    let all : take n a.minted ≡ a.minted = ap (λ (k : ℕ). take k a.minted) (e ∙ issued_are s a shows) ∙ take-length a.minted in
    so ∙ ap (λ (ms : List Minted). counts (version_count a) a.last.schema.number (length a.last.table) (length a.minted) ++ citation_lines 1 ms) all

-- where a place is among the citations, one was minted there
minted_among : (ms : List Minted) (i : ℕ) → i < length ms → slice_get ms i ≡ None → ⊥
minted_among [] i lt e = absurd (omega arith)
minted_among (m ∷ ms) zero lt e = absurd (cc)
minted_among (m ∷ ms) (suc i) lt e = minted_among ms i (omega arith) e

-- a number up to the count of the citations resolves
pub never_missing : (s : Snapshot) (number issued : ℕ) → PartsStand s.rows s.store → 1 ≤ number → number ≤ length s.store
    → ((history : List Entry) (a : Archive) → LeadsTo history a → AgreeParts s.rows s.store a → Resolved a number (Err (looks.NotIssued issued))) → ⊥
never_missing s zero issued stand first last told = absurd (omega arith)
never_missing s (suc i) issued stand first last told =
    let same : length s.store ≡ length stand.archive.minted = ap length stand.agree.same ∙ length-map stand.archive.minted kept_of in
    minted_among stand.archive.minted i (omega (arith, same, last)) (told stand.history stand.archive stand.leads stand.agree).0
