use Rattle.std.proofs.Common.{ℕ, ◌<◌, List, get_or}
use Rattle.entry_codec.specs.declared.entry.Entry.{Entry}
use Rattle.archive_model.specs.Archives.{Archive}
use Rattle.archive_model.specs.Histories.{LeadsTo}
use Rattle.archive_state.specs.Citations.{Gave}
use Rattle.archive_state.specs.Standing.{Shows}
use Rattle.archive_state.proofs.citing.first_with.Given as goal

-- none of the candidates so far gave the bytes
abbrev pub invariant-loop-number : goal.invariant-loop-number
invariant-loop-number l = (history : List Entry) (a : Archive) → LeadsTo history a → Shows l.seen a → (k : ℕ) → k < l.number-index → Gave a (get_or l.number-items k 0) l.bytes → ⊥
