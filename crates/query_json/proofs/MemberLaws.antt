-- Objects with one member.
use Rattle.std.proofs.Common.{◌≡◌, ◌≢◌, ◌<◌, List, [], ◌∷◌, length, Option, Some, None, String, Global, string_bytes, refl, ap, ◌∙◌, arith, rules, MatchOption, IsSome, IfSome, ◌↔◌, Bor}
use Rattle.std.specs.Prelude.{slice_get}
use Rattle.serde_json.specs.View.{view, members_view}
use Rattle.serde_json.specs.declared.value.Value.{Value as Json}
use Rattle.query_json.specs.Values.{hex_member, list_of}
use Rattle.query_json.specs.Operators.{operator_of}
use Rattle.query_json.specs.Conditions.{condition_of, condition_in, applied_if}
use Rattle.query_json.proofs.ListLaws.{conditions_of-list_of}

abbrev pub Entry : Type 0
Entry = String Global × Json

one_entry : (es : List Entry) (e : Entry) → length es ≡ 1 → slice_get es 0 ≡ Some e → es ≡ e ∷ []
one_entry [] e n g = absurd (omega arith)
one_entry (x ∷ []) e n g = cc
one_entry (x ∷ y ∷ es) e n g = absurd (omega arith)

-- the first of entries that are one
pub only_found : (es : List Entry) (r : Option (Bor (String Global) × Bor Json)) → length es ≡ 1 → (IsSome r ↔ (0 < length es)) → IfSome r (λ p. slice_get es 0 ≡ Some (p.0.now, p.1.now))
    → MatchOption r (length es ≢ 1) (λ p. es ≡ (p.0.now, p.1.now) ∷ [])
only_found es None n some first = let h : 0 < length es = omega arith in let s = some.1 h in absurd (search (rules, s))
only_found es (Some p) n some first = one_entry es (p.0.now, p.1.now) n first

-- an object that has not one member spells no text
pub no_hex : (es : List Entry) → length es ≢ 1 → None ≡ hex_member (members_view es)
no_hex [] h = refl
no_hex (x ∷ []) h = absurd (h refl)
no_hex (x ∷ y ∷ es) h = refl

-- an object that has not one member says no condition
pub no_condition : (es : List Entry) → length es ≢ 1 → None ≡ condition_in (members_view es)
no_condition [] h = refl
no_condition (x ∷ []) h = absurd (h refl)
no_condition (x ∷ y ∷ es) h = refl

-- the condition of an object with one member
pub condition_in-one : (es : List Entry) (e : Entry) → es ≡ e ∷ []
    → condition_in (members_view es) ≡ applied_if (operator_of (string_bytes e.0)) (view e.1) (condition_of (view e.1)) (list_of condition_of (view e.1))
condition_in-one es e h =
    ap (λ xs. condition_in (members_view xs)) h
    ∙ ap (applied_if (operator_of (string_bytes e.0)) (view e.1) (condition_of (view e.1))) (conditions_of-list_of (view e.1))
