use Rattle.query_json.proofs.BodyLaws.{json_of-read, json_of-unread}
use Rattle.query_json.proofs.request.read_json.Goals as goal

pub returns-in-Ok : goal.returns-in-Ok
returns-in-Ok c = json_of-read c.args.body.now _ c.in-Ok.ensures.ok.0 c.in-Ok.ensures.ok.1

pub returns-in_default : goal.returns-in_default
returns-in_default c = json_of-unread c.args.body.now (λ utf8. c.in-Err.ensures.err (λ m. c.in_default.not-Memory (c.classify.ensures.memory.1 m)) utf8)
