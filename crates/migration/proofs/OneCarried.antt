-- A form is carried to one form at most, and to a settled one.
use Rattle.std.proofs.Common.{◌≡◌, ◌+◌, List, [], ◌∷◌, Option, Some, None, sym, ◌∙◌, subst}
use Rattle.std.specs.Prelude.{IsSomeAnd}
use Rattle.cite_schema.specs.Answers.{Plan, Alike}
use Rattle.cite_schema.specs.declared.schema.Column.{Column}
use Rattle.cite_schema.proofs.Results.{unfaulted}
use Rattle.subset_query.specs.declared.form.Normal.{Normal}
use Rattle.subset_query.specs.Forms.{formed, IsSettled}
use Rattle.subset_query.proofs.Alikes.{alike_back, alike_on}
use Rattle.subset_query.proofs.Central.{one_form}
use Rattle.migration.specs.Columns.{columns_after, step_fault}
use Rattle.migration.specs.Forms.{parts_after, Carries}
use Rattle.migration.specs.CarryLaws.{CarriedToOne, CarriedSettled, FormsAreCarriedToOneForm}

-- the settled form of parts is one
pub one_settled : (columns : List Column) (o : Option Plan) (a b : Normal) → IsSomeAnd o (λ p. IsSettled columns a × Alike columns p (formed a)) → IsSomeAnd o (λ p. IsSettled columns b × Alike columns p (formed b)) → a ≡ b
one_settled columns None a b h k = absurd h
one_settled columns (Some p) a b h k = one_form columns a b h.0 k.0 (alike_on columns (formed a) p (formed b) (alike_back columns p (formed a) h.1) k.1)

pub settled_one : (columns : List Column) (o : Option Plan) (a : Normal) → IsSomeAnd o (λ p. IsSettled columns a × Alike columns p (formed a)) → IsSettled columns a
settled_one columns None a h = absurd h
settled_one columns (Some p) a h = h.0

pub carried_to_one : CarriedToOne
carried_to_one columns [] form one other h k = sym h ∙ k
carried_to_one columns (x ∷ xs) form one other (a, first, more) (b, first', more') =
    let same : a ≡ b = one_settled (columns_after columns x) (parts_after columns x form) a b first first' in
    carried_to_one (columns_after columns x) xs b one other (subst (λ n. Carries (columns_after columns x) xs n one) same more) more'

pub carried_settled : CarriedSettled
carried_settled n columns after [] form other s settled h =
    let same : columns ≡ after = cc in subst (λ cs. IsSettled cs other) same (subst (IsSettled columns) h settled)
carried_settled n columns after (x ∷ xs) form other s settled (a, first, more) =
    let (none, rest) = unfaulted (step_fault columns n x) _ after s in
    carried_settled (n + 1) (columns_after columns x) after xs a other rest (settled_one (columns_after columns x) (parts_after columns x form) a first) more

pub both : FormsAreCarriedToOneForm
both = (carried_to_one, carried_settled)
