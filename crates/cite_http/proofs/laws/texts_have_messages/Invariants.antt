use Rattle.std.proofs.Common.{◌≤◌, ◌-◌, length, drop}
use Rattle.cite_http.specs.Messages.{whole}
use Rattle.cite_http.specs.Pieces.{HasMessages}
use Rattle.cite_http.proofs.laws.texts_have_messages.Given as goal

abbrev pub invariant-loop-frame : goal.invariant-loop-frame
invariant-loop-frame l = record { within : l.start ≤ length l.text; leads : HasMessages (whole (drop l.start l.text)) → HasMessages (whole l.text) }

abbrev pub decreases-loop-frame : goal.decreases-loop-frame
decreases-loop-frame l = length l.text - l.start
