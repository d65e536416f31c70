-- The words that name the operators of conditions.
use Rattle.std.specs.Prelude.{ℕ, List, codes, Option, Some, None, if◌then◌else◌, bytes_eq}
use Rattle.query_json.specs.declared.operator.Operator.{Operator}
use Rattle.query_json.specs.declared.operator.Operator.TheVariants.{Lt, Le, Eq, Ne, Ge, Gt, Among, Prefix, AllOf, AnyOf, Not}

-- the operator that a word names
unfoldable pub operator_of : List ℕ → Option Operator
operator_of word =
    if bytes_eq word (codes "lt") then Some Lt else
    if bytes_eq word (codes "le") then Some Le else
    if bytes_eq word (codes "eq") then Some Eq else
    if bytes_eq word (codes "ne") then Some Ne else
    if bytes_eq word (codes "ge") then Some Ge else
    if bytes_eq word (codes "gt") then Some Gt else
    if bytes_eq word (codes "in") then Some Among else
    if bytes_eq word (codes "prefix") then Some Prefix else
    if bytes_eq word (codes "and") then Some AllOf else
    if bytes_eq word (codes "or") then Some AnyOf else
    if bytes_eq word (codes "not") then Some Not else None
