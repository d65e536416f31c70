use Rattle.csv_records.proofs.FirstAgain.{least_moved}
use Rattle.csv_records.proofs.keys.least_again.Goals as goal

pub returns : goal.returns
returns g c = least_moved g.K.Ord.cmp g.met.K.Ord.total c.args.held.now c.sort_unstable.new.self c.least_neighbour.result c.sort_unstable.ensures.permutation c.least_neighbour.ensures
