-- One output is due for an input.
use Rattle.std.proofs.Common.{◌≡◌, ◌≤◌, ℕ, List, Option, Some, None, length, inl, inr, sym, ap, ◌∙◌, subst, arith}
use Rattle.cite_schema.specs.declared.value.Value.{Value}
use Rattle.cite_schema.specs.declared.schema.Column.{Column}
use Rattle.cite_schema.specs.Answers.{Gives}
use Rattle.cite_schema.specs.Queries.{asked}
use Rattle.cite_schema.proofs.Answered.{one_text}
use Rattle.cite_schema.proofs.TableTexts.{spells_once}
use Rattle.cite_cli.specs.declared.bounds.Bounds.{Bounds}
use Rattle.cite_cli.specs.declared.refusal.Refusal.{Refusal}
use Rattle.cite_cli.specs.declared.refusal.Refusal.TheVariants.{ResultTooLarge}
use Rattle.csv_records.specs.Records.{records_of}
use Rattle.cite_cli.specs.Refusals.{records_fault, refusal_line}
use Rattle.cite_cli.specs.Select.{select_query, IsResult, IsBroken, OneOutputIsDue}

-- an input has one result
one_result : (column : List ℕ) (bounds : Bounds) (text bytes others : List ℕ) → IsResult column bounds text bytes → IsResult column bounds text others → bytes ≡ others
one_result column bounds text bytes others r s =
    let (columns, table) = spells_once (records_of text) r.columns s.columns r.table s.table r.spelled s.spelled in
    let plan = asked r.columns (select_query r.columns column bounds) in
    let same : Gives (asked r.columns (select_query r.columns column bounds)) r.table others =
    subst (λ (t : List (List Value)). Gives plan t others) (sym table) (subst (λ (cs : List Column). Gives (asked cs (select_query cs column bounds)) s.table others) (sym columns) s.given) in
    one_text plan r.table bytes others r.given same

clash : {A : Type 0} (o : Option A) (x : A) → o ≡ None → o ≡ Some x → ⊥
clash o x e h = absurd (cc)

told_once : (o : Option Refusal) (x y : Refusal) → o ≡ Some x → o ≡ Some y → x ≡ y
told_once o x y e h = cc

-- a result that may be written is not too large
not_both : (column : List ℕ) (bounds : Bounds) (text bytes : List ℕ) (refusal : Refusal) → IsResult column bounds text bytes → length bytes ≤ 67108864 → IsBroken column bounds text refusal → ⊥
not_both column bounds text bytes refusal r small (inl e) = clash (records_fault column (records_of text)) refusal r.unbroken e
not_both column bounds text bytes refusal r small (inr t) =
    let same = ap length (one_result column bounds text bytes t.bytes r t.result) in
    let large = t.large in
    absurd (omega (arith, same, large, small))

-- one rule is the first that is broken
one_refusal : (column : List ℕ) (bounds : Bounds) (text : List ℕ) (a b : Refusal) → IsBroken column bounds text a → IsBroken column bounds text b → a ≡ b
one_refusal column bounds text a b (inl e) (inl h) = told_once (records_fault column (records_of text)) a b e h
one_refusal column bounds text a b (inl e) (inr t) = absurd (clash (records_fault column (records_of text)) a t.result.unbroken e)
one_refusal column bounds text a b (inr t) (inl h) = absurd (clash (records_fault column (records_of text)) b t.result.unbroken h)
one_refusal column bounds text a b (inr t) (inr u) = t.refusal_is ∙ ap (λ l. ResultTooLarge (length l)) (one_result column bounds text t.bytes u.bytes t.result u.result) ∙ sym u.refusal_is

pub one_output : OneOutputIsDue
one_output column bounds text bytes others (inl r) (inl s) = one_result column bounds text bytes others r.0 s.0
one_output column bounds text bytes others (inl r) (inr s) = absurd (not_both column bounds text bytes s.0 r.0 r.1 s.1)
one_output column bounds text bytes others (inr r) (inl s) = absurd (not_both column bounds text others r.0 s.0 s.1 r.1)
one_output column bounds text bytes others (inr r) (inr s) = r.2 ∙ ap refusal_line (one_refusal column bounds text r.0 s.0 r.1 s.1) ∙ sym s.2
