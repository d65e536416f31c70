-- Rows that agree with an archive agree after a batch and a migration, and give the bytes of citations.
use Rattle.std.proofs.Common.{◌≡◌, ℕ, zero, suc, ◌+◌, ◌<◌, ◌≤◌, ◌⊎◌, inl, inr, List, [], ◌∷◌, ◌++◌, Option, Some, None, IsPermutation, length, map, slice_get, refl, sym, ap, ◌∙◌, subst, arith}
use Rattle.std.specs.Prelude.{Ok, Result, unwrap_or}
use Rattle.std.specs.List.{AllByRecursion, sum_by}
use Rattle.std.specs.Option.{option_and_then, option_map_or}
use Rattle.std.proofs.lemmas.List.{length-map, map-append, append-nil}
use Rattle.std.proofs.lemmas.List.Sums.{sum_by-cons}
use Rattle.std.proofs.lemmas.List.Sorted.{IsPermutation-refl, IsPermutation-map, IsPermutation-append_left, IsPermutation-trans, length_permutation, sum_by-IsPermutation}
use Rattle.sha2.specs.Sha256.{sha256}
use Rattle.cite_schema.specs.Answers.{Gives}
use Rattle.cite_schema.specs.Lines.{brought}
use Rattle.cite_schema.specs.TableTexts.{before, all_some}
use Rattle.cite_schema.specs.declared.value.Value.{Value}
use Rattle.cite_schema.specs.declared.schema.Column.{Column}
use Rattle.cite_schema.specs.declared.line.Line.{Line}
use Rattle.cite_schema.specs.declared.step.Step.{Step}
use Rattle.cite_schema.proofs.TableTexts.{before_some}
use Rattle.subset_query.specs.Forms.{formed}
use Rattle.migration.specs.Rows.{carry_row, carry_rows}
use Rattle.versioned_rows.specs.declared.rows.KeptRow.{KeptRow}
use Rattle.versioned_rows.specs.declared.fault.ApplyFault.{ApplyFault}
use Rattle.versioned_rows.specs.Changes.{after_lines}
use Rattle.versioned_rows.specs.Weights.{row_weight, rows_weight}
use Rattle.versioned_rows.specs.Histories.{RowHistory, rows_of, as_of, last_table}
use Rattle.versioned_rows.specs.Nexts.{IsNextByLines, IsNextByRule}
use Rattle.archive_model.specs.Archives.{Archive, Version, Minted, Maker, ByBatch, ByMigration, columns_of, version_count, carried_by, all_carried_by, table_in, now_table, kept_in, kept_rows, weight_of}
use Rattle.archive_model.specs.Batching.{with_batch}
use Rattle.archive_model.specs.Migrating.{with_migration}
use Rattle.archive_model.specs.Agreeing.{AgreeRows}
use Rattle.archive_model.specs.ArchiveLaws.{Resolves}
use Rattle.archive_model.specs.AgreeingLaws.{GivesAgain, ExecutingAgainGivesTheBytes, LinesKeepAgreement, StepsKeepAgreement, AgreementCounts, RowsStayInStep}
use Rattle.archive_model.proofs.Sound.{citations_resolve}
use Rattle.archive_model.proofs.Tables.{batch_carries, last_table_in, older_table_in, older_or_last}

-- what holds of each element holds of the one at a place
pub all_there : {X : Type 0} (P : X → Type 0) (xs : List X) (i : ℕ) (x : X) → AllByRecursion P xs → slice_get xs i ≡ Some x → P x
all_there P [] i x h at = absurd (cc)
all_there P (y ∷ ys) zero x h at = let same : y ≡ x = cc in subst P same h.0
all_there P (y ∷ ys) (suc i) x h at = all_there P ys i x h.1 at

pub executing_again : ExecutingAgainGivesTheBytes
executing_again history a rows place m leads agree at =
    let r = all_there (Resolves a.last a.older) a.minted place m (citations_resolve history a leads).citations at in
    let same : Some r.table ≡ Some (as_of rows m.issue.version) = sym r.is ∙ agree.tables m.issue.version r.from r.to in
    let one : r.table ≡ as_of rows m.issue.version = cc in
    record { from = r.from; to = subst (λ n. m.issue.version ≤ n) (sym agree.last) r.to; gives = subst (λ t. Gives (formed m.form) t m.bytes) one r.gives }

-- the last table of the rows is that of the archive
pub same_last : (a : Archive) (rows : RowHistory) → AgreeRows rows a → last_table rows ≡ a.last.table
same_last a rows agree =
    let there : now_table a (version_count a) ≡ Some (as_of rows (version_count a)) = agree.tables (version_count a) (omega arith) (omega arith) in
    let same : Some (as_of rows (version_count a)) ≡ Some a.last.table = sym there ∙ last_table_in a.last a.older in
    let one : as_of rows (version_count a) ≡ a.last.table = cc in
    ap (as_of rows) agree.last ∙ one

all_batch : (columns : List Column) (curator : List ℕ) (number : ℕ) (digest : List ℕ) (lines : List Line) (os : List (Option (List Value))) → map (option_and_then (carried_by columns (ByBatch curator number digest lines))) os ≡ os
all_batch columns curator number digest lines [] = refl
all_batch columns curator number digest lines (None ∷ os) = ap (λ l. None ∷ l) (all_batch columns curator number digest lines os)
all_batch columns curator number digest lines (Some r ∷ os) = ap (λ l. Some r ∷ l) (all_batch columns curator number digest lines os)

one_ok : (t u : List (List Value)) → ◌≡◌ {A = Result (List (List Value)) ApplyFault} (Ok t) (Ok u) → t ≡ u
one_ok t u e = cc

pub lines_keep : LinesKeepAgreement
lines_keep a ask now lines table rows new agree made next = record {
  last = next.last ∙ ap (λ n. n + 1) agree.last ∙ one_more (length a.older);
  tables = λ n from to. by n from (older_or_last n (length a.older) to);
  kept = subst (λ l. IsPermutation (l ++ map Some (brought lines)) (map Some (rows_of new))) (sym (all_batch (columns_of a) ask.curator ask.number (sha256 ask.body) lines (kept_rows a)))
      (IsPermutation-trans _ (map Some (rows_of rows) ++ map Some (brought lines)) _ (IsPermutation-append_left (map Some (brought lines)) (kept_rows a) (map Some (rows_of rows)) agree.kept)
      (subst (λ l. IsPermutation l (map Some (rows_of new))) (map-append Some (rows_of rows) (brought lines)) (IsPermutation-map Some (rows_of rows ++ brought lines) (rows_of new) next.kept)));
}
  where
    grown : Archive
    grown = with_batch a ask now lines table

    one_more : (n : ℕ) → n + 1 + 1 ≡ suc n + 1
    one_more n = omega arith

    own : table ≡ last_table new
    own = one_ok table (last_table new) (sym made ∙ ap (after_lines 1 lines) (sym (same_last a rows agree)) ∙ next.table)

    new_last : new.last ≡ suc (length a.older) + 1
    new_last = next.last ∙ ap (λ n. n + 1) agree.last ∙ one_more (length a.older)

    by : (n : ℕ) → 1 ≤ n → (n ≤ length a.older + 1) ⊎ (n ≡ suc (length a.older) + 1) → now_table grown n ≡ Some (as_of new n)
    by n from (inl le) =
        older_table_in grown.last a.last a.older n le ∙ ap (option_and_then (all_carried_by (columns_of a) grown.last.maker)) (agree.tables n from le)
        ∙ batch_carries (columns_of a) ask.curator ask.number (sha256 ask.body) lines (as_of rows n) ∙ ap Some (sym (next.past n (subst (λ m. n ≤ m) (sym agree.last) le)))
    by n from (inr e) = ap (now_table grown) e ∙ last_table_in grown.last (a.last ∷ a.older) ∙ ap Some (own ∙ ap (as_of new) (new_last ∙ sym e))

-- where all values are there, each is
each_some : (rule : List Value → Option (List Value)) (xs ys : List (List Value)) → all_some (map rule xs) ≡ Some ys → map rule xs ≡ map Some ys
each_some rule [] ys e = let n : [] ≡ ys = cc in ap (map Some) n
each_some rule (x ∷ xs) ys e =
    let (z, zs, first, rest, is) = before_some (rule x) (all_some (map rule xs)) ys e in
    ap (λ o. o ∷ map rule xs) first ∙ ap (λ os. Some z ∷ os) (each_some rule xs zs rest) ∙ ap (map Some) (sym is)

through_some : (rule : List Value → Option (List Value)) (xs : List (List Value)) → map (option_and_then rule) (map Some xs) ≡ map rule xs
through_some rule [] = refl
through_some rule (x ∷ xs) = ap (λ os. rule x ∷ os) (through_some rule xs)

pub steps_keep : StepsKeepAgreement
steps_keep a schema steps now minted rows new agree next = record {
  last = new_last;
  tables = λ n from to. by n from (older_or_last n (length a.older) to);
  kept = subst (λ l. IsPermutation l (map Some (rows_of new))) (sym (append-nil (map (option_and_then rule) (kept_rows a))))
      (subst (λ l. IsPermutation (map (option_and_then rule) (kept_rows a)) l) (through_some rule (rows_of rows) ∙ each_some rule (rows_of rows) (rows_of new) next.kept)
      (IsPermutation-map (option_and_then rule) (kept_rows a) (map Some (rows_of rows)) agree.kept));
}
  where
    rule : List Value → Option (List Value)
    rule = carry_row (columns_of a) steps

    grown : Archive
    grown = with_migration a schema steps now

    one_more : (n : ℕ) → n + 1 + 1 ≡ suc n + 1
    one_more n = omega arith

    new_last : new.last ≡ suc (length a.older) + 1
    new_last = next.last ∙ ap (λ n. n + 1) agree.last ∙ one_more (length a.older)

    own : unwrap_or (carry_rows (columns_of a) steps a.last.table) [] ≡ last_table new
    own = ap (λ t. unwrap_or (carry_rows (columns_of a) steps t) []) (sym (same_last a rows agree)) ∙ ap (λ o. unwrap_or o []) next.table

    by : (n : ℕ) → 1 ≤ n → (n ≤ length a.older + 1) ⊎ (n ≡ suc (length a.older) + 1) → now_table grown n ≡ Some (as_of new n)
    by n from (inl le) =
        older_table_in grown.last a.last a.older n le ∙ ap (option_and_then (all_carried_by (columns_of a) (ByMigration steps))) (agree.tables n from le)
        ∙ next.past n (subst (λ m. n ≤ m) (sym agree.last) le)
    by n from (inr e) = ap (now_table grown) e ∙ last_table_in grown.last (a.last ∷ a.older) ∙ ap Some (own ∙ ap (as_of new) (new_last ∙ sym e))

weight_sum : (os : List (Option (List Value))) → weight_of os ≡ sum_by (λ o. option_map_or row_weight o 0) os
weight_sum [] = refl
weight_sum (o ∷ os) = ap (λ n. option_map_or row_weight o 0 + n) (weight_sum os) ∙ sym (sum_by-cons (λ p. option_map_or row_weight p 0) o os)

weight_some : (rs : List (List Value)) → weight_of (map Some rs) ≡ rows_weight rs
weight_some [] = refl
weight_some (r ∷ rs) = ap (λ n. row_weight r + n) (weight_some rs)

pub agreement_counts : AgreementCounts
agreement_counts a rows agree = (
  sym (length_permutation (kept_rows a) (map Some (rows_of rows)) agree.kept)
      ∙ length-map (rows_of rows) Some ∙ length-map rows.kept (λ (k : KeptRow). k.row),
  weight_sum (kept_rows a) ∙ sym (sum_by-IsPermutation (λ o. option_map_or row_weight o 0) (kept_rows a) (map Some (rows_of rows)) agree.kept) ∙ sym (weight_sum (map Some (rows_of rows)))
      ∙ weight_some (rows_of rows),
)

pub in_step : RowsStayInStep
in_step = (lines_keep, steps_keep, agreement_counts)
