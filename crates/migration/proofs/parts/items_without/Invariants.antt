use Rattle.std.proofs.Common.{◌≡◌, map}
use Rattle.migration.specs.Forms.{item_without}
use Rattle.migration.proofs.parts.items_without.Given as goal

abbrev pub invariant-loop-item : goal.invariant-loop-item
invariant-loop-item l = l.left ≡ map (item_without l.gone) l.yielded
