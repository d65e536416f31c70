-- What a condition says of a value, by cases on the condition as it was written.
use Rattle.std.specs.Prelude.{Bool, false, not, List, ℕ, nat_eq}
use Rattle.std.specs.List.{list_all, list_any, starts_with}
use Rattle.std.specs.Ordering.{is_lt, is_le, is_eq, is_ge, is_gt, is_ne}
use Rattle.cite_schema.specs.Values.{value_cmp}
use Rattle.cite_schema.specs.declared.value.Value.{Value}
use Rattle.cite_schema.specs.declared.value.Value.TheVariants.{Int, Text}
use Rattle.cite_schema.specs.declared.condition.Cond.{Cond}
use Rattle.cite_schema.specs.declared.condition.Cond.TheOpen.{Cond-F, Lt, Le, Eq, Ne, Ge, Gt, Among, Prefix, AllOf, AnyOf, Not}
use Rattle.cite_schema.specs.declared.condition.Cond.TheFolds.{fold-Cond}

-- a text that begins with these bytes; a number begins with none
abbrev pub begins_with : List ℕ → Value → Bool
begins_with p (Int z) = false
begins_with p (Text t) = starts_with nat_eq t p

-- what one condition says of a value, where what each condition inside it says stands in its place
abbrev pub meets_step : Cond-F (Value → Bool) → Value → Bool
meets_step (Lt v) x = is_lt (value_cmp x v)
meets_step (Le v) x = is_le (value_cmp x v)
meets_step (Eq v) x = is_eq (value_cmp x v)
meets_step (Ne v) x = is_ne (value_cmp x v)
meets_step (Ge v) x = is_ge (value_cmp x v)
meets_step (Gt v) x = is_gt (value_cmp x v)
meets_step (Among vs) x = list_any (λ v. is_eq (value_cmp x v)) vs
meets_step (Prefix p) x = begins_with p x
meets_step (AllOf ms) x = list_all (λ m. m x) ms
meets_step (AnyOf ms) x = list_any (λ m. m x) ms
meets_step (Not m) x = not (m x)

-- the value meets the condition
abbrev pub meets : Cond → Value → Bool
meets = fold-Cond (Value → Bool) meets_step
