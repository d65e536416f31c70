use Rattle.std.proofs.Common.{ap}
use Rattle.std.specs.Option.{option_copied}
use Rattle.subset_query.proofs.SingleValues.{text_read, no_text}
use Rattle.subset_query.proofs.fixed.single_text.Goals as goal

pub returns-in_ok-copy-in-Some : goal.returns-in_ok-copy-in-Some
returns-in_ok-copy-in-Some c = text_read c.args.set.now _ c.in-Some.text.now c.in_ok-copy-in-Some.field-0 (ap option_copied c.in-Some.is) c.in_ok-copy-in-Some.ensures c.in_ok-text.ensures

pub returns-in-None : goal.returns-in-None
returns-in-None c = no_text c.args.set.now _ (ap option_copied c.in-None.is) c.in_ok-text.ensures
