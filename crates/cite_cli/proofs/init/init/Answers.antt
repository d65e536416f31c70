use Rattle.std.proofs.Common.{refl}
use Rattle.cite_cli.proofs.Delivering.{ends_so}
use Rattle.cite_cli.proofs.init.init.Goals as goal

pub returns : goal.returns
returns g c left reads = record {
  moment = c.now-now.result;
  asked = c.now-now.ensures;
  untaken = record { left = refl; reads = refl };
  ends = ends_so _ _ _ _ c.founded-due.result c.deliver.result c.founded-due.ensures c.deliver.ensures;
}
