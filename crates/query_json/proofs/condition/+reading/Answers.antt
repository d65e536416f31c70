use Rattle.std.proofs.Common.{◌≡◌, sym, ap, ◌∙◌, Some, string_bytes}
use Rattle.std.proofs.lemmas.Result.{IfOk-weaker}
use Rattle.serde_json.specs.View.{view}
use Rattle.query_json.specs.Values.{list_of}
use Rattle.query_json.specs.Operators.{operator_of}
use Rattle.query_json.specs.Conditions.{applied_if, condition_of}
use Rattle.query_json.proofs.MemberLaws.{no_condition, condition_in-one}
use Rattle.query_json.proofs.condition.+reading.Goals as goal

pub read_member-returns-in_default : goal.read_member-returns-in_default
read_member-returns-in_default t c = no_condition c.args.members.now.entries c.in_default.ensures

pub read_member-returns : goal.read_member-returns
read_member-returns t c =
    let one = condition_in-one c.args.members.now.entries (c.in-Some.name.now, c.in-Some.operand.now) c.in-Some.ensures in
    let named : Some c.in-Some-read_operator.operator ≡ operator_of (string_bytes c.in-Some.name.now) = c.in-Some-read_operator.ensures ∙ ap operator_of c.as_str.ensures.value in
    IfOk-weaker c.read_operand.result _ _ (λ o e. e ∙ ap (λ x. applied_if x (view c.in-Some.operand.now) (condition_of (view c.in-Some.operand.now)) (list_of condition_of (view c.in-Some.operand.now))) named ∙ sym one) c.read_operand.ensures
