-- Steps that carry a schema have a payload.
use Rattle.std.proofs.Common.{◌≡◌, ℕ, ◌+◌, ◌≤◌, Bool, true, false, not, ◌||◌, ◌&&◌, List, [], ◌∷◌, IsTrue, length, refl, arith}
use Rattle.std.specs.Prelude.{Ok}
use Rattle.std.specs.List.{AllByRecursion}
use Rattle.cite_schema.specs.Headings.{is_heading, is_name}
use Rattle.cite_schema.specs.declared.value.Value.{Value}
use Rattle.cite_schema.specs.declared.schema.Column.{Column}
use Rattle.cite_schema.specs.declared.step.Step.{Step}
use Rattle.cite_schema.specs.declared.step.Step.TheVariants.{Rename, Add, DropColumn, Scale, Recode, RetypeToText}
use Rattle.cite_schema.proofs.Rising.{and_first, and_second}
use Rattle.cite_schema.proofs.Results.{unfaulted}
use Rattle.migration.specs.Columns.{columns_after, columns_after_all, step_fault, may_come_in}
use Rattle.migration.proofs.Faultless.{IsFaultless, faultless, not_false}
use Rattle.migration.proofs.SchemaColumns.{carried_headings}
use Rattle.entry_codec.specs.Spellable.{held, FitsText, FitsValue, FitsStep, IsPrintable}
use Rattle.entry_codec.specs.declared.entry.Entry.TheVariants as entries
use Rattle.archive_state.proofs.Printable.{known_short, named_short, short_value}

name_fits : (name : List ℕ) → is_name name ≡ true → FitsText name
name_fits name h = let short = named_short name h in omega (arith, short)

coming_fits : (v : Value) → may_come_in v ≡ true → FitsValue held v
coming_fits v h = short_value v (and_second _ _ h)

none_of : (a b : Bool) → (a || b) ≡ false → b ≡ false
none_of true b h = absurd (cc)
none_of false b h = h

-- a step without a fault has a spelling
step_fits : (columns : List Column) (step : Step) → IsTrue (is_heading columns) → IsFaultless columns step → FitsStep held step
step_fits columns (Rename c to) heading f = (known_short columns c heading f.known, name_fits to (not_false _ f.good))
step_fits columns (Add c v) heading f = (name_fits c (and_first (is_name c) (may_come_in v) (not_false _ f.good)), coming_fits v (and_second (is_name c) (may_come_in v) (not_false _ f.good)))
step_fits columns (DropColumn c) heading f = known_short columns c heading f.known
step_fits columns (Scale c by plus) heading f = (known_short columns c heading f.known, tt, tt)
step_fits columns (Recode c old new) heading f =
    let values = not_false _ (none_of _ (not (may_come_in old && may_come_in new)) f.good) in
    (known_short columns c heading f.known, coming_fits old (and_first (may_come_in old) (may_come_in new) values), coming_fits new (and_second (may_come_in old) (may_come_in new) values))
step_fits columns (RetypeToText c) heading f = known_short columns c heading f.known

-- so have steps that carry columns
pub steps_fit : (n : ℕ) (columns after : List Column) (steps : List Step) → IsTrue (is_heading columns) → columns_after_all n columns steps ≡ Ok after → AllByRecursion (FitsStep held) steps
steps_fit n columns after [] heading s = tt
steps_fit n columns after (x ∷ xs) heading s =
    let (none, rest) = unfaulted (step_fault columns n x) _ after s in
    (step_fits columns x heading (faultless columns n x none), steps_fit (n + 1) (columns_after columns x) after xs (carried_headings n columns (columns_after columns x) (x ∷ []) (rw none refl) heading) rest)

-- and the entry of a migration by them
pub move_printable : (stamp schema n : ℕ) (columns after : List Column) (steps : List Step) → IsTrue (is_heading columns) → length steps ≤ 16 → columns_after_all n columns steps ≡ Ok after
    → IsPrintable (entries.Migrate (record { stamp = stamp; schema = schema; steps = steps }))
move_printable stamp schema n columns after steps heading few s = (tt, tt, (omega (arith, few), steps_fit n columns after steps heading s))
