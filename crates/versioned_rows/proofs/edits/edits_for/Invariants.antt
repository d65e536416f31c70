use Rattle.std.proofs.Common.{◌≡◌, ◌+◌, take, drop}
use Rattle.versioned_rows.specs.Parts.{finds, asked, first_by}
use Rattle.versioned_rows.proofs.edits.edits_for.Given as goal

abbrev pub invariant-loop-line : goal.invariant-loop-line
invariant-loop-line l =
    (l.number ≡ l.line-index) × (l.edits ≡ asked l.version l.kept (take l.line-index l.lines))
    × (first_by (finds l.kept) 1 l.lines ≡ first_by (finds l.kept) (l.line-index + 1) (drop l.line-index l.lines))
