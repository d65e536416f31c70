use Rattle.std.proofs.Common.{◌≤◌, ◌<◌, length, map, ap, ◌∙◌, arith}
use Rattle.migration.proofs.Naming.{removed_mapped, none_taken}
use Rattle.migration.proofs.named.shortened.Goals as goal

pub returns-then-place-len : goal.returns-then-place-len
returns-then-place-len c =
    let behind : length c.args.names.items ≤ c.args.place = omega arith in
    none_taken (λ n. n.now) c.args.place c.args.names.items behind

pub returns : goal.returns
returns c =
    let there : c.args.place < length c.args.names.items = omega arith in
    ap (map (λ n. n.now)) c.remove.ensures.items ∙ removed_mapped (λ n. n.now) c.args.place c.args.names.items there
