use Rattle.std.proofs.Common.{◌≡◌}
use Rattle.cite_schema.specs.Layout.{labels}
use Rattle.subset_query.proofs.fixed.labels_of.Given as goal

abbrev pub invariant-loop-item : goal.invariant-loop-item
invariant-loop-item l = l.found ≡ labels l.yielded
