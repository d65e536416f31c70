use Rattle.std.proofs.Common.{◌≤◌, ◌-◌, ◌^◌}
use Rattle.cite_disk.specs.Device.{Quiet}
use Rattle.archive_core.specs.Opening.{Walked}
use Rattle.archive_core.proofs.opening.follow.Given as goal

abbrev pub decreases-records : goal.decreases-records
decreases-records g l = 2 ^ 64 - l.walk.at

abbrev pub invariant-records : goal.invariant-records
invariant-records g l = record {
  walked : Walked g.D.Disk.honest (g.D.Disk.seen l.disk) l.walk l.follower;
  quiet : g.D.Disk.honest → Quiet g.D.Disk.seen g.D.Disk.images g.D.Disk.moment g.D.Disk.left_since l.fn.disk l.disk;
  later : g.D.Disk.fault_count l.fn.disk ≤ g.D.Disk.fault_count l.disk;
}
