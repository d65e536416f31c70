use Rattle.shared_pages.specs.Probes.{all_from}
use Rattle.shared_pages.specs.Walks.{to_come}
use Rattle.query_store.specs.Places.{finding_cmp}
use Rattle.query_store.specs.Picks.{HasForm}
use Rattle.query_store.proofs.Candidates.{Leads}
use Rattle.query_store.proofs.picking.picked.Given as goal

abbrev pub invariant-loop-finding : goal.invariant-loop-finding
invariant-loop-finding l =
    goal.iterator-loop-finding.can_next l.finding-iterator
    × goal.iterator-loop-finding.is_finite l.finding-iterator
    × Leads (HasForm l.store l.normal) l.probe (all_from finding_cmp l.probe l.index) (to_come l.finding-iterator) l.numbers
