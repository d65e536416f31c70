use Rattle.std.proofs.Common.{ap}
use Rattle.std.specs.Option.{option_copied}
use Rattle.subset_query.proofs.SingleValues.{number_read, no_number}
use Rattle.subset_query.proofs.fixed.single_number.Goals as goal

pub returns-in-Some : goal.returns-in-Some
returns-in-Some c = number_read c.args.set.now _ c.in-Some.number.now (ap option_copied c.in-Some.is) c.in_ok-number.ensures

pub returns-in-None : goal.returns-in-None
returns-in-None c = no_number c.args.set.now _ (ap option_copied c.in-None.is) c.in_ok-number.ensures
