use Rattle.std.proofs.Common.{◌∙◌, sym, ap, Some, None}
use Rattle.std.proofs.lemmas.Result.{IfOk-weaker}
use Rattle.query_json.specs.Steps.{step_word_of}
use Rattle.query_json.proofs.StepLaws.{no_step, step_in-one}
use Rattle.query_json.proofs.steps.read_named.Goals as goal

pub returns-in_default : goal.returns-in_default
returns-in_default c = no_step c.args.members.now.entries c.in_default.ensures

pub returns-in-None : goal.returns-in-None
returns-in-None c = step_in-one c.args.members.now.entries (c.in-Some.name.now, c.in-Some.content.now) None c.in-Some.ensures (c.in-None.ensures ∙ ap step_word_of c.as_str.ensures.value)
