-- What a JSON value says as a condition.
use Rattle.std.specs.Prelude.{List, [], Option, Some, None, option_map}
use Rattle.serde_json.specs.Data.{Data, null, boolean, number, string, array, object, Items, no_items, item, Members, no_members, member}
use Rattle.cite_schema.specs.TableTexts.{before}
use Rattle.cite_schema.specs.declared.condition.Cond.{Cond}
use Rattle.cite_schema.specs.declared.condition.Cond as cond
use Rattle.query_json.specs.Values.{value_of, text_of, list_of}
use Rattle.query_json.specs.Operators.{operator_of}
use Rattle.query_json.specs.declared.operator.Operator.{Operator}
use Rattle.query_json.specs.declared.operator.Operator.TheVariants.{Lt, Le, Eq, Ne, Ge, Gt, Among, Prefix, AllOf, AnyOf, Not}

-- the condition of an operator and its operand, given also what the operand says as a condition and as a list of them
abbrev pub applied : Operator → Data → Option Cond → Option (List Cond) → Option Cond
applied Lt operand inner list = option_map cond.Lt (value_of operand)
applied Le operand inner list = option_map cond.Le (value_of operand)
applied Eq operand inner list = option_map cond.Eq (value_of operand)
applied Ne operand inner list = option_map cond.Ne (value_of operand)
applied Ge operand inner list = option_map cond.Ge (value_of operand)
applied Gt operand inner list = option_map cond.Gt (value_of operand)
applied Among operand inner list = option_map cond.Among (list_of value_of operand)
applied Prefix operand inner list = option_map cond.Prefix (text_of operand)
applied AllOf operand inner list = option_map cond.AllOf list
applied AnyOf operand inner list = option_map cond.AnyOf list
applied Not operand inner list = option_map cond.Not inner

-- the same, where the word named an operator
abbrev pub applied_if : Option Operator → Data → Option Cond → Option (List Cond) → Option Cond
applied_if None operand inner list = None
applied_if (Some operator) operand inner list = applied operator operand inner list

-- the condition of an object's first member, where no further one follows
abbrev pub if_alone : Members → Option Cond → Option Cond
if_alone no_members c = c
if_alone (member k d ms) c = None

-- the condition that a JSON value says: an object with one member, named by an operator, whose content is the operand
abbrev mutual
  pub condition_of : Data → Option Cond
  condition_of null = None
  condition_of (boolean b) = None
  condition_of (number n) = None
  condition_of (string s) = None
  condition_of (array ds) = None
  condition_of (object ms) = condition_in ms

  pub condition_in : Members → Option Cond
  condition_in no_members = None
  condition_in (member k d ms) = if_alone ms (applied_if (operator_of k) d (condition_of d) (conditions_of d))

  pub conditions_of : Data → Option (List Cond)
  conditions_of null = None
  conditions_of (boolean b) = None
  conditions_of (number n) = None
  conditions_of (string s) = None
  conditions_of (array ds) = conditions_in ds
  conditions_of (object ms) = None

  pub conditions_in : Items → Option (List Cond)
  conditions_in no_items = Some []
  conditions_in (item d ds) = before (condition_of d) (conditions_in ds)
