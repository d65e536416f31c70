use Rattle.std.proofs.Common.{◌≡◌, take, sum_by}
use Rattle.result_bytes.proofs.Sizes.{field_size}
use Rattle.result_bytes.proofs.size.labels_size.Given as goal

abbrev pub invariant-loop-item : goal.invariant-loop-item
invariant-loop-item l = l.size ≡ sum_by (λ item. field_size item.label) (take l.item-index l.items)
