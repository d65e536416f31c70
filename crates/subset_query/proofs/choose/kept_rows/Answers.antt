use Rattle.std.proofs.Common.{◌∙◌, ap, filter, rules}
use Rattle.std.proofs.lemmas.Fn.{filter_same}
use Rattle.subset_query.specs.Forms.{in_sets}
use Rattle.subset_query.proofs.choose.kept_rows.Goals as goal

pub returns : goal.returns
returns c =
    c.from_vec.ensures
    ∙ filter_same _ (λ r. in_sets c.args.sets.now r) _ (λ x b f' h. search rules) _ _ c.retain.ensures.filtered
    ∙ ap (filter (λ r. in_sets c.args.sets.now r)) c.into_vec-kept.ensures
