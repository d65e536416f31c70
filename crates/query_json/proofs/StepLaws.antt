-- Objects with one member, as steps.
use Rattle.std.proofs.Common.{◌≡◌, ◌≢◌, ℕ, List, [], ◌∷◌, length, Option, Some, None, string_bytes, refl, sym, ap, ◌∙◌}
use Rattle.serde_json.specs.View.{view, members_view}
use Rattle.cite_schema.specs.declared.step.Step.{Step}
use Rattle.query_json.specs.declared.step_word.StepWord.{StepWord}
use Rattle.query_json.specs.Steps.{step_word_of, step_if, step_in, step_by}
use Rattle.query_json.proofs.MemberLaws.{Entry}

-- an object that has not one member says no step
pub no_step : (es : List Entry) → length es ≢ 1 → None ≡ step_in (members_view es)
no_step [] h = refl
no_step (x ∷ []) h = absurd (h refl)
no_step (x ∷ y ∷ es) h = refl

-- the step of an object with one member
pub step_in-one : (es : List Entry) (e : Entry) (word : Option StepWord) → es ≡ e ∷ [] → word ≡ step_word_of (string_bytes e.0) → step_if word (view e.1) ≡ step_in (members_view es)
step_in-one es e word one is = ap (λ w. step_if w (view e.1)) is ∙ ap (λ xs. step_in (members_view xs)) (sym one)
