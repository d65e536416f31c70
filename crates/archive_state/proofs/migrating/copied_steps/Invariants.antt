use Rattle.std.proofs.Common.{◌≡◌, ◌++◌, drop}
use Rattle.archive_state.proofs.migrating.copied_steps.Given as goal

abbrev pub invariant-loop-step : goal.invariant-loop-step
invariant-loop-step l = l.copied ++ drop l.step-index l.steps ≡ l.steps
