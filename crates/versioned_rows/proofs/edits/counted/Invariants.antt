use Rattle.std.proofs.Common.{◌≡◌, ◌+◌, ◌≤◌, drop}
use Rattle.versioned_rows.specs.Parts.{all_puts, all_removes}
use Rattle.versioned_rows.proofs.edits.counted.Given as goal

abbrev pub invariant-loop-line : goal.invariant-loop-line
invariant-loop-line l =
    (l.most + all_puts (drop l.line-index l.lines) ≡ l.count + all_puts l.lines) × (l.removed + all_removes (drop l.line-index l.lines) ≡ all_removes l.lines) × (l.removed ≤ l.line-index)
