use Rattle.query_json.proofs.MemberLaws.{no_hex}
use Rattle.query_json.proofs.value.read_hex.Goals as goal

pub returns-in_default : goal.returns-in_default
returns-in_default c = no_hex c.args.members.now.entries c.in_default.ensures
