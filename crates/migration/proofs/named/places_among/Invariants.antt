use Rattle.std.proofs.Common.{◌≡◌, ◌++◌, drop, map}
use Rattle.migration.specs.Naming.{named_places}
use Rattle.migration.proofs.named.places_among.Given as goal

abbrev pub invariant-loop-step : goal.invariant-loop-step
invariant-loop-step l = l.places ++ named_places (map (λ n. n.now) l.names.items) (drop l.step-index l.steps) ≡ named_places (map (λ c. c.name) l.columns) l.steps
