-- What a founding answers, from what was planned.
use Rattle.std.proofs.Common.{◌≡◌, ◌⊎◌, inl, inr, ℕ, Bool, true, false, not, List, Option, Some, None, sym, ◌∙◌, subst}
use Rattle.std.specs.Prelude.{Err, ⊤, option_map, nat_lt, if◌then◌else◌}
use Rattle.std.specs.Option.{option_or}
use Rattle.std.proofs.lemmas.Option.{none-some}
use Rattle.cite_schema.specs.Headings.{heading_fault}
use Rattle.cite_schema.specs.declared.dataset.Dataset.{Dataset}
use Rattle.cite_schema.specs.declared.schema.Column.{Column}
use Rattle.cite_schema.specs.declared.schema.SchemaFault.{SchemaFault}
use Rattle.identifiers.specs.Prefixes.{is_prefix}
use Rattle.entry_codec.specs.declared.entry.FoundEntry.{FoundEntry}
use Rattle.archive_model.specs.declared.answers.FoundFault.{FoundFault}
use Rattle.archive_model.specs.declared.answers.FoundFault.TheVariants as faults
use Rattle.archive_model.specs.Limits.{clock_end}
use Rattle.archive_model.specs.Histories.{found_fault, is_told}
use Rattle.archive_state.specs.Founding.{PlansFound}
use Rattle.archive_core.specs.Answering.{Founds, IsBroken}

-- the fault is that of a rule, and not of a disk or of memory
abbrev IsRule : FoundFault → Type 0
IsRule faults.BadPrefix = ⊤
IsRule (faults.BadMeta part) = ⊤
IsRule (faults.Schema fault) = ⊤
IsRule (faults.ClockRange moment) = ⊤
IsRule faults.NoMemory = ⊥
IsRule faults.DiskFailed = ⊥
IsRule faults.Occupied = ⊥

abbrev AreRules : Option FoundFault → Type 0
AreRules None = ⊤
AreRules (Some fault) = IsRule fault

rules_if : (b : Bool) (x y : Option FoundFault) → AreRules x → AreRules y → AreRules (if b then x else y)
rules_if true x y is_x is_y = is_x
rules_if false x y is_x is_y = is_y

rules_or : (x y : Option FoundFault) → AreRules x → AreRules y → AreRules (option_or x y)
rules_or None y is_x is_y = is_y
rules_or (Some fault) y is_x is_y = is_x

schema_rules : (h : Option SchemaFault) → AreRules (option_map faults.Schema h)
schema_rules None = tt
schema_rules (Some fault) = tt

-- a founding's fault is that of a rule
are_rules : (d : Dataset) (columns : List Column) (now : ℕ) → AreRules (found_fault d columns now)
are_rules d columns now =
    rules_if (not (is_prefix d.prefix)) _ _ tt
    (rules_if (not (is_told d.publisher)) _ _ tt
    (rules_if (not (is_told d.creator)) _ _ tt
    (rules_if (not (is_told d.title)) _ _ tt
    (rules_or _ _ (schema_rules (heading_fault columns)) (rules_if (nat_lt now clock_end) None (Some (faults.ClockRange now)) tt tt)))))

not_rule : (f : FoundEntry) (fault : FoundFault) → found_fault f.dataset f.columns f.stamp ≡ Some fault → IsRule fault
not_rule f fault is = subst AreRules is (are_rules f.dataset f.columns f.stamp)

-- a fault that was planned is the answer
pub refused_founding : (f : FoundEntry) (fault : FoundFault) → PlansFound f (Err fault) → Founds f (Err fault)
refused_founding f faults.BadPrefix is = is
refused_founding f (faults.BadMeta part) is = is
refused_founding f (faults.Schema fault) is = is
refused_founding f (faults.ClockRange moment) is = is
refused_founding f faults.NoMemory is = tt
refused_founding f faults.DiskFailed is = absurd (not_rule f faults.DiskFailed is)
refused_founding f faults.Occupied is = absurd (not_rule f faults.Occupied is)

-- no plan tells of a disk
pub plan_not_disk : (f : FoundEntry) (fault : FoundFault) → PlansFound f (Err fault) → (fault ≡ faults.DiskFailed) ⊎ (fault ≡ faults.Occupied) → ⊥
plan_not_disk f faults.BadPrefix is (inl e) = cc
plan_not_disk f faults.BadPrefix is (inr e) = cc
plan_not_disk f (faults.BadMeta part) is (inl e) = cc
plan_not_disk f (faults.BadMeta part) is (inr e) = cc
plan_not_disk f (faults.Schema fault) is (inl e) = cc
plan_not_disk f (faults.Schema fault) is (inr e) = cc
plan_not_disk f (faults.ClockRange moment) is (inl e) = cc
plan_not_disk f (faults.ClockRange moment) is (inr e) = cc
plan_not_disk f faults.NoMemory is (inl e) = cc
plan_not_disk f faults.NoMemory is (inr e) = cc
plan_not_disk f faults.DiskFailed is which = not_rule f faults.DiskFailed is
plan_not_disk f faults.Occupied is which = not_rule f faults.Occupied is

-- a founding that breaks no rule is not broken
pub never_broken : (f : FoundEntry) → found_fault f.dataset f.columns f.stamp ≡ None → IsBroken f → ⊥
never_broken f none broken = none-some broken.0 (sym none ∙ broken.1)
