-- What is known of a step without a fault.
use Rattle.std.proofs.Common.{◌≡◌, ℕ, Bool, true, false, not, List, Option, Some, None, slice_get, refl, sym, ap, ◌∙◌}
use Rattle.std.specs.Prelude.{if◌then◌else◌}
use Rattle.std.specs.Option.{option_map_or}
use Rattle.cite_schema.specs.declared.value.Kind.{Kind}
use Rattle.cite_schema.specs.declared.schema.Column.{Column}
use Rattle.cite_schema.specs.declared.step.Step.{Step}
use Rattle.migration.specs.Columns.{is_bad, is_unknown, is_of_key, is_wrong_kind, is_taken, is_too_wide, step_fault, kind_passes, place_of}

-- the step passes each test
pub record IsFaultless (columns : List Column) (step : Step) : Type 0 where
  pub good : is_bad step ≡ false
  pub known : is_unknown columns step ≡ false
  pub not_key : is_of_key columns step ≡ false
  pub kind : is_wrong_kind columns step ≡ false
  pub free : is_taken columns step ≡ false
  pub fitting : is_too_wide columns step ≡ false

-- where there is no fault behind a test, the test failed
passed : {F : Type 0} (b : Bool) (fault : F) (rest : Option F) → (if b then Some fault else rest) ≡ None → (b ≡ false) × (rest ≡ None)
passed true fault rest e = absurd (cc)
passed false fault rest e = (refl, e)

pub faultless : (columns : List Column) (n : ℕ) (step : Step) → step_fault columns n step ≡ None → IsFaultless columns step
faultless columns n step e =
    let (a, e1) = passed (is_bad step) _ _ e in
    let (b, e2) = passed (is_unknown columns step) _ _ e1 in
    let (c, e3) = passed (is_of_key columns step) _ _ e2 in
    let (d, e4) = passed (is_wrong_kind columns step) _ _ e3 in
    let (f, e5) = passed (is_taken columns step) _ _ e4 in
    let (g, e6) = passed (is_too_wide columns step) _ _ e5 in
    record { good = a; known = b; not_key = c; kind = d; free = f; fitting = g }

pub not_false : (b : Bool) → not b ≡ false → b ≡ true
not_false true e = refl
not_false false e = cc

passes_there : (o : Option Column) (c : Column) (test : Kind → Bool) → option_map_or (λ d. test d.kind) o false ≡ true → o ≡ Some c → test c.kind ≡ true
passes_there None c test h e = absurd (cc)
passes_there (Some d) c test h e = let same : d ≡ c = cc in ap (λ w. test w.kind) (sym same) ∙ h

-- the kind of the column at the step's place passes the test
pub passes_kind : (columns : List Column) (step : Step) (test : Kind → Bool) (c : Column) → kind_passes columns step test ≡ true → slice_get columns (place_of columns step) ≡ Some c → test c.kind ≡ true
passes_kind columns step test c h at = passes_there (slice_get columns (place_of columns step)) c test h at
