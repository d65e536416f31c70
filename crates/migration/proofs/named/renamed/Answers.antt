use Rattle.std.proofs.Common.{◌≤◌, ◌<◌, length, arith}
use Rattle.migration.proofs.Naming.{set_mapped, none_set}
use Rattle.migration.proofs.named.renamed.Goals as goal

pub returns-then-place-len : goal.returns-then-place-len
returns-then-place-len c =
    let behind : length c.args.names.items ≤ c.args.place = omega arith in
    none_set (λ n. n.now) (λ n. c.args.name.now) c.args.place c.args.names.items behind

pub returns : goal.returns
returns c =
    let there : c.args.place < length c.args.names.items = omega arith in
    set_mapped (λ n. n.now) c.args.place c.args.names.items c.args.name there
