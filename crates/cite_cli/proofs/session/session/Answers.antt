use Rattle.std.proofs.Common.{refl}
use Rattle.cite_cli.specs.Session.Sessions.{Unopened, Opened}
use Rattle.cite_cli.proofs.Delivering.{ends_so}
use Rattle.cite_cli.proofs.session.session.Goals as goal

pub returns-in-Ok : goal.returns-in-Ok
returns-in-Ok g c =
    let r = c.in-Ok.ensures.resumes in
    Opened c.converse.result c.ending_of.ensures (record {
      history = r.history;
      archive = r.archive;
      leads = r.stands.leads;
      carried = λ honest. (r.spelled, r.is honest);
      faults = g.D.Disk.fault_count c.open.new.disk;
      later = c.open.ensures.later;
      ended = c.converse.ensures.ended r.history r.archive r.stands r.keeps;
    })

pub returns-in-Err : goal.returns-in-Err
returns-in-Err g c = Unopened (record {
  untaken = record { left = refl; reads = refl };
  timeless = refl;
  ends = ends_so _ _ _ _ c.in-Err.due c.deliver.result c.in-Err.ensures.unopened c.deliver.ensures;
})
