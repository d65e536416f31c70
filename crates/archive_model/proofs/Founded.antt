-- What is known of a founding that breaks no rule.
use Rattle.std.proofs.Common.{◌≡◌, ℕ, Bool, true, false, not, List, Option, Some, None, refl}
use Rattle.std.specs.Prelude.{option_map, nat_lt, if◌then◌else◌}
use Rattle.std.specs.Option.{option_or}
use Rattle.cite_schema.specs.Headings.{heading_fault}
use Rattle.entry_codec.specs.declared.entry.FoundEntry.{FoundEntry}
use Rattle.identifiers.specs.Prefixes.{is_prefix}
use Rattle.archive_model.specs.declared.answers.FoundFault.{FoundFault}
use Rattle.archive_model.specs.declared.answers.FoundFault.TheVariants as faults
use Rattle.archive_model.specs.Limits.{clock_end}
use Rattle.archive_model.specs.Histories.{is_told, found_fault}

passed : {F : Type 0} (b : Bool) (fault : F) (rest : Option F) → (if b then Some fault else rest) ≡ None → rest ≡ None
passed true fault rest e = absurd (cc)
passed false fault rest e = e

both_none : {A F : Type 0} (f : A → F) (o : Option A) (p : Option F) → option_or (option_map f o) p ≡ None → (o ≡ None) × (p ≡ None)
both_none f None p e = (refl, e)
both_none f (Some x) p e = absurd (cc)

in_range : (b : Bool) (x : FoundFault) → (if b then None else Some x) ≡ None → b ≡ true
in_range true x e = refl
in_range false x e = absurd (cc)

last_tests : (f : FoundEntry) → found_fault f.dataset f.columns f.stamp ≡ None → (heading_fault f.columns ≡ None) × ((if nat_lt f.stamp clock_end then None else Some (faults.ClockRange f.stamp)) ≡ None)
last_tests f e =
    let e1 = passed (not (is_prefix f.dataset.prefix)) _ _ e in
    let e2 = passed (not (is_told f.dataset.publisher)) _ _ e1 in
    let e3 = passed (not (is_told f.dataset.creator)) _ _ e2 in
    let e4 = passed (not (is_told f.dataset.title)) _ _ e3 in
    both_none faults.Schema (heading_fault f.columns) _ e4

failed : {F : Type 0} (b : Bool) (fault : F) (rest : Option F) → (if not b then Some fault else rest) ≡ None → b ≡ true
failed true fault rest e = refl
failed false fault rest e = absurd (cc)

-- what it tells of the data set keeps its rules
pub founded_told : (f : FoundEntry) → found_fault f.dataset f.columns f.stamp ≡ None
    → (is_prefix f.dataset.prefix ≡ true) × (is_told f.dataset.publisher ≡ true) × (is_told f.dataset.creator ≡ true) × (is_told f.dataset.title ≡ true)
founded_told f e =
    let e1 = passed (not (is_prefix f.dataset.prefix)) _ _ e in
    let e2 = passed (not (is_told f.dataset.publisher)) _ _ e1 in
    let e3 = passed (not (is_told f.dataset.creator)) _ _ e2 in
    (failed (is_prefix f.dataset.prefix) _ _ e, failed (is_told f.dataset.publisher) _ _ e1, failed (is_told f.dataset.creator) _ _ e2, failed (is_told f.dataset.title) _ _ e3)

-- its columns make a schema
pub founded_heading : (f : FoundEntry) → found_fault f.dataset f.columns f.stamp ≡ None → heading_fault f.columns ≡ None
founded_heading f e = (last_tests f e).0

-- its stamp is in the range
pub founded_stamp : (f : FoundEntry) → found_fault f.dataset f.columns f.stamp ≡ None → nat_lt f.stamp clock_end ≡ true
founded_stamp f e = in_range (nat_lt f.stamp clock_end) (faults.ClockRange f.stamp) (last_tests f e).1
