use Rattle.batches.proofs.LineKeys.{ReadKeys}
use Rattle.batches.proofs.keys.key_twice.Given as goal

abbrev pub invariant-loop-i : goal.invariant-loop-i
invariant-loop-i l = ReadKeys l.keys l.lines l.i
