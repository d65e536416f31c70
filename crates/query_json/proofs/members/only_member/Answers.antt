use Rattle.std.proofs.Common.{◌≡◌, length, arith}
use Rattle.query_json.proofs.MemberLaws.{only_found}
use Rattle.query_json.proofs.members.only_member.Goals as goal

pub returns : goal.returns
returns c =
    let n : length c.args.members.now.entries ≡ 1 = omega arith in
    only_found c.args.members.now.entries c.first_key_value.result n c.first_key_value.ensures.variant c.first_key_value.ensures.first
