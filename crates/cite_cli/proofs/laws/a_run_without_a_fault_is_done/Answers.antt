use Rattle.cite_cli.proofs.Completing.{init_completes, verify_completes}
use Rattle.cite_cli.proofs.Conversed.{session_completes}
use Rattle.cite_cli.proofs.Keeping.{disk_of}
use Rattle.cite_cli.proofs.laws.a_run_without_a_fault_is_done.Goals as goal

pub returns : goal.returns
returns g c = record {
  init = λ old new. init_completes (disk_of g.D.Disk old new);
  verify = λ old new. verify_completes (disk_of g.D.Disk old new);
  session = λ old new. session_completes (disk_of g.D.Disk old new);
}
