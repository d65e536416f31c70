use Rattle.std.proofs.Common.{◌≡◌, ◌++◌, drop}
use Rattle.query_store.proofs.copies.+copying.Given as goal

abbrev pub invariant-copy_parts-loop-cond : goal.invariant-copy_parts-loop-cond
invariant-copy_parts-loop-cond l = l.copied ++ drop l.cond-index l.conds ≡ l.conds
