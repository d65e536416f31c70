use Rattle.std.proofs.Common.{◌≤◌, ◌-◌, ◌^◌, []}
use Rattle.cite_disk.specs.Device.{Quiet}
use Rattle.archive_journal.specs.Laws.{AreSmall}
use Rattle.archive_journal.specs.Walks.{IsAt}
use Rattle.archive_journal.proofs.tests.log.walk_all.Given as goal

abbrev pub decreases-records : goal.decreases-records
decreases-records g l = 2 ^ 64 - l.walk.at

abbrev pub invariant-records : goal.invariant-records
invariant-records g l = record {
  at : g.D.Disk.honest → IsAt (g.D.Disk.seen l.fn.disk) [] l.fn.walk.at l.fn.walk.gate → IsAt (g.D.Disk.seen l.disk) l.payloads.items l.walk.at l.walk.gate;
  small : AreSmall l.payloads.items;
  quiet : g.D.Disk.honest → Quiet g.D.Disk.seen g.D.Disk.images g.D.Disk.moment g.D.Disk.left_since l.fn.disk l.disk;
  later : g.D.Disk.fault_count l.fn.disk ≤ g.D.Disk.fault_count l.disk;
}
