use Rattle.std.proofs.Common.{◌≡◌, map, take}
use Rattle.migration.specs.Forms.{dir_without}
use Rattle.migration.proofs.parts.order_without.Given as goal

abbrev pub invariant-loop-dir : goal.invariant-loop-dir
invariant-loop-dir l = l.left ≡ map (dir_without l.gone) (take l.dir-index l.dirs)
