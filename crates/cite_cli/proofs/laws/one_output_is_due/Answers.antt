use Rattle.cite_cli.proofs.Outputs.{one_output}
use Rattle.cite_cli.proofs.laws.one_output_is_due.Goals as goal

pub returns : goal.returns
returns c = one_output
