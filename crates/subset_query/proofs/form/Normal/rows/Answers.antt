use Rattle.std.proofs.Common.{◌∙◌, ap, sym, subst, filter, List}
use Rattle.cite_schema.specs.Answers.{IsAnswer}
use Rattle.cite_schema.specs.declared.value.Value.{Value}
use Rattle.subset_query.specs.Forms.{formed, in_sets}
use Rattle.subset_query.specs.declared.form.ColumnSet.{ColumnSet}
use Rattle.subset_query.specs.declared.form.Normal.{Normal}
use Rattle.subset_query.specs.declared.form.Normal.TheVariants.{Nothing}
use Rattle.subset_query.proofs.OwnKeys.{kept_told, arranged_answer, no_answer}
use Rattle.subset_query.proofs.form.Normal.rows.Goals as goal

pub returns-in_ok-picked-in-Some : goal.returns-in_ok-picked-in-Some
returns-in_ok-picked-in-Some c =
    let picked = c.in_ok-picked-in-Some.picked in
    subst (λ (n : Normal). IsAnswer (formed n) c.args.rows picked) (sym c.in-Some.is)
    (arranged_answer c.in-Some.sets c.in-Some.items c.in-Some.order c.args.rows c.kept_rows-kept.result picked
    (c.kept_rows-kept.ensures ∙ ap (λ (sets : List ColumnSet). filter (in_sets sets) c.args.rows) c.as_slice.ensures)
    c.in_ok-picked-in-Some.ensures.moved
    c.in_ok-picked-in-Some.ensures.in_order)

pub returns-in-Nothing : goal.returns-in-Nothing
returns-in-Nothing c =
    let rows = c.args.rows in
    let labels = c.in-Nothing.labels in
    subst (λ (n : Normal). IsAnswer (formed n) rows c.new.result) (sym c.in-Nothing.is)
    (subst (λ (k : List (List Value)). IsAnswer (formed (Nothing labels)) rows k) (sym c.new.ensures) (no_answer labels rows))

pub arrange-requires : goal.arrange-requires
arrange-requires c = kept_told (in_sets c.as_slice.result.now) c.kept_rows-kept.result c.args.rows c.kept_rows-kept.ensures c.requires
