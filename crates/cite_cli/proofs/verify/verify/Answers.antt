use Rattle.std.proofs.Common.{refl}
use Rattle.cite_cli.proofs.Delivering.{ends_so}
use Rattle.cite_cli.proofs.verify.verify.Goals as goal

pub returns : goal.returns
returns g c left given reads = record {
  untaken = record { left = refl; reads = refl };
  timeless = refl;
  safe = c.verified-due.ensures.safe;
  ends = ends_so _ _ _ _ c.verified-due.result c.deliver.result c.verified-due.ensures.due c.deliver.ensures;
}
