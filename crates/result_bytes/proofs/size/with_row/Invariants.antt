use Rattle.std.proofs.Common.{◌≡◌, ◌+◌, take, sum_by}
use Rattle.cite_schema.specs.Layout.{shown}
use Rattle.result_bytes.proofs.Sizes.{field_size}
use Rattle.result_bytes.proofs.size.with_row.Given as goal

abbrev pub invariant-loop-item : goal.invariant-loop-item
invariant-loop-item l = l.sum ≡ l.size + sum_by (λ item. field_size (shown item.what l.row)) (take l.item-index l.items)
