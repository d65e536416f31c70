use Rattle.std.proofs.Common.{rules, ◌≡◌, to_z, of_z, w64}
use Rattle.versioned_rows.proofs.Ready.{two_lightly}
use Rattle.versioned_rows.proofs.tests.mapping.scaled.Goals as goal

pub returns-in_ok-row-in-Some-checked_mul : goal.returns-in_ok-row-in-Some-checked_mul
returns-in_ok-row-in-Some-checked_mul c =
    let same : to_z w64 (of_z w64 c.in-Some.key) ≡ c.in-Some.key = search rules in
    two_lightly c.args.row.now c.in_ok-row-in-Some-checked_mul.row c.in-Some.key _ _ c.in_ok-row-in-Some-checked_mul.ensures c.in-Some.ensures same
