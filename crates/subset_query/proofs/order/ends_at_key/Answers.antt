use Rattle.subset_query.proofs.Shortened.{ends_last}
use Rattle.subset_query.proofs.order.ends_at_key.Goals as goal

pub returns-in-len1-up : goal.returns-in-len1-up
returns-in-len1-up c = ends_last c.args.order.now _ c.in-len1-up.len_at_least
