use Rattle.std.proofs.Common.{drop}
use Rattle.subset_query.proofs.Chosen.{IsNarrowed}
use Rattle.subset_query.proofs.normal_form.chosen_sets.Given as goal

abbrev pub invariant-loop-on : goal.invariant-loop-on
invariant-loop-on l = IsNarrowed l.columns l.sets.items l.conds (drop l.on-index l.conds)
