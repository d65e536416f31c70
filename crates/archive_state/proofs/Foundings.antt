-- What is kept after a founding stands for the history of it alone.
use Rattle.std.proofs.Common.{◌≡◌, ℕ, zero, suc, ◌+◌, ◌-◌, ◌<◌, ◌≤◌, ◌^◌, Bool, true, false, not, List, [], ◌∷◌, Option, Some, None, IsTrue, length, refl, sym, ap, ◌∙◌, subst, arith}
use Rattle.std.specs.Prelude.{Err, option_map, nat_lt, min, is_none, if◌then◌else◌}
use Rattle.std.specs.Arc.{arc_value}
use Rattle.std.specs.List.{AllByRecursion}
use Rattle.std.specs.Option.{option_or}
use Rattle.std.proofs.lemmas.List.Elements.{recursion_from_All}
use Rattle.std.proofs.lemmas.List.Sorted.{IsPermutation-refl}
use Rattle.cite_schema.specs.Headings.{heading_fault, is_name}
use Rattle.cite_schema.specs.declared.dataset.Dataset.{Dataset}
use Rattle.cite_schema.specs.declared.schema.Column.{Column}
use Rattle.cite_schema.specs.declared.schema.SchemaFault.{SchemaFault}
use Rattle.cite_schema.proofs.WellNamed.{are_well_named}
use Rattle.identifiers.specs.Prefixes.{is_prefix}
use Rattle.entry_codec.specs.declared.entry.FoundEntry.{FoundEntry}
use Rattle.entry_codec.specs.declared.entry.Entry.TheVariants as entries
use Rattle.entry_codec.specs.Payloads.{payload}
use Rattle.entry_codec.specs.Spellable.{FitsText, IsPrintable}
use Rattle.versioned_rows.specs.Histories.{as_of}
use Rattle.archive_model.specs.declared.answers.FoundFault.{FoundFault}
use Rattle.archive_model.specs.declared.answers.FoundFault.TheVariants as faults
use Rattle.archive_model.specs.Archives.{now_table}
use Rattle.archive_model.specs.Limits.{clock_end}
use Rattle.archive_model.specs.Histories.{found_fault, founded, is_told}
use Rattle.archive_model.specs.Agreeing.{AgreeRows}
use Rattle.archive_model.proofs.Founded.{founded_told, founded_heading}
use Rattle.archive_model.proofs.FoundingSize.{told_short, prefix_short, named_short, founding_fits}
use Rattle.archive_state.specs.declared.present.Present.{Present}
use Rattle.archive_state.specs.declared.snapshot.Snapshot.{Snapshot}
use Rattle.archive_state.specs.Used.{use_of}
use Rattle.archive_state.specs.declared.used.UsedNumber.{UsedNumber}
use Rattle.archive_state.specs.Founding.{dataset_fault, PlansFound}
use Rattle.archive_state.specs.Standing.{Shows, StandsFor}

-- a rule that a founding breaks is told
pub tells : (f : FoundEntry) (fault : FoundFault) → found_fault f.dataset f.columns f.stamp ≡ Some fault → PlansFound f (Err fault)
tells f faults.BadPrefix e = e
tells f (faults.BadMeta part) e = e
tells f (faults.Schema fault) e = e
tells f (faults.ClockRange moment) e = e
tells f faults.NoMemory e = tt
tells f faults.DiskFailed e = e
tells f faults.Occupied e = e

-- a rule that the data set breaks is the founding's
pub dataset_broken : (d : Dataset) (columns : List Column) (now : ℕ) (fault : FoundFault) → dataset_fault d ≡ Some fault → found_fault d columns now ≡ Some fault
dataset_broken d columns now fault e = by (not (is_prefix d.prefix)) (not (is_told d.publisher)) (not (is_told d.creator)) (not (is_told d.title)) e
  where
    rest : Option FoundFault
    rest = option_or (option_map faults.Schema (heading_fault columns)) (if nat_lt now clock_end then None else Some (faults.ClockRange now))

    by : (a b c k : Bool)
        → (if a then Some faults.BadPrefix else (if b then Some (faults.BadMeta 4) else (if c then Some (faults.BadMeta 1) else (if k then Some (faults.BadMeta 2) else None)))) ≡ Some fault
        → (if a then Some faults.BadPrefix else (if b then Some (faults.BadMeta 4) else (if c then Some (faults.BadMeta 1) else (if k then Some (faults.BadMeta 2) else rest)))) ≡ Some fault
    by true b c k h = h
    by false true c k h = h
    by false false true k h = h
    by false false false true h = h
    by false false false false h = absurd (cc)

-- where it breaks none, the columns and the moment decide
pub dataset_kept : (d : Dataset) (columns : List Column) (now : ℕ) → dataset_fault d ≡ None
    → found_fault d columns now ≡ option_or (option_map faults.Schema (heading_fault columns)) (if nat_lt now clock_end then None else Some (faults.ClockRange now))
dataset_kept d columns now e = by (not (is_prefix d.prefix)) (not (is_told d.publisher)) (not (is_told d.creator)) (not (is_told d.title)) e
  where
    rest : Option FoundFault
    rest = option_or (option_map faults.Schema (heading_fault columns)) (if nat_lt now clock_end then None else Some (faults.ClockRange now))

    by : (a b c k : Bool)
        → (if a then Some faults.BadPrefix else (if b then Some (faults.BadMeta 4) else (if c then Some (faults.BadMeta 1) else (if k then Some (faults.BadMeta 2) else None)))) ≡ None
        → (if a then Some faults.BadPrefix else (if b then Some (faults.BadMeta 4) else (if c then Some (faults.BadMeta 1) else (if k then Some (faults.BadMeta 2) else rest)))) ≡ rest
    by true b c k h = absurd (cc)
    by false true c k h = absurd (cc)
    by false false true k h = absurd (cc)
    by false false false true h = absurd (cc)
    by false false false false h = refl

pub heading_broken : (d : Dataset) (columns : List Column) (now : ℕ) (fault : SchemaFault) → dataset_fault d ≡ None → heading_fault columns ≡ Some fault → found_fault d columns now ≡ Some (faults.Schema fault)
heading_broken d columns now fault kept e =
    dataset_kept d columns now kept ∙ ap (λ o. option_or (option_map faults.Schema o) (if nat_lt now clock_end then None else Some (faults.ClockRange now))) e

pub moment_broken : (d : Dataset) (columns : List Column) (now : ℕ) → dataset_fault d ≡ None → heading_fault columns ≡ None → nat_lt now clock_end ≡ false → found_fault d columns now ≡ Some (faults.ClockRange now)
moment_broken d columns now kept e late =
    dataset_kept d columns now kept ∙ ap (λ o. option_or (option_map faults.Schema o) (if nat_lt now clock_end then None else Some (faults.ClockRange now))) e
    ∙ ap (λ b. if b then None else Some (faults.ClockRange now)) late

pub none_broken : (d : Dataset) (columns : List Column) (now : ℕ) → dataset_fault d ≡ None → heading_fault columns ≡ None → nat_lt now clock_end ≡ true → found_fault d columns now ≡ None
none_broken d columns now kept e early =
    dataset_kept d columns now kept ∙ ap (λ o. option_or (option_map faults.Schema o) (if nat_lt now clock_end then None else Some (faults.ClockRange now))) e
    ∙ ap (λ b. if b then None else Some (faults.ClockRange now)) early

columns_short : (cs : List Column) → AllByRecursion (λ c. IsTrue (is_name c.name)) cs → AllByRecursion (λ c. FitsText c.name) cs
columns_short [] h = tt
columns_short (c ∷ cs) h = let short = named_short c.name h.0 in (omega (arith, short), columns_short cs h.1)

-- a founding that breaks no rule has a payload
pub founding_printable : (f : FoundEntry) → found_fault f.dataset f.columns f.stamp ≡ None → IsPrintable (entries.Found f)
founding_printable f e =
    let told = founded_told f e in
    let well = are_well_named f.columns (ap is_none (founded_heading f e)) in
    let few = well.few in
    let prefix = prefix_short f.dataset.prefix told.0 in let publisher = told_short f.dataset.publisher told.1 in
    let creator = told_short f.dataset.creator told.2 in let title = told_short f.dataset.title told.3 in (
      tt,
      (omega (arith, prefix), omega (arith, publisher), omega (arith, creator), omega (arith, title)),
      (omega (arith, few), columns_short f.columns (recursion_from_All (λ (c : Column). IsTrue (is_name c.name)) f.columns well.named)),
    )

-- the length of its journal fits
pub founding_length : (f : FoundEntry) (n : ℕ) → found_fault f.dataset f.columns f.stamp ≡ None → n ≡ min (length (payload (entries.Found f))) (2 ^ 64 - 1) → (17 + n + 37 < 2 ^ 64) × (17 + n + 37 ≡ (founded f).journal)
founding_length f n e h =
    let fits = founding_fits f 9000 (omega arith) e in
    let small : min (length (payload (entries.Found f))) (2 ^ 64 - 1) ≡ length (payload (entries.Found f)) = omega (arith, fits) in
    let same = h ∙ small in
    (omega (arith, same, fits), omega (arith, same))

-- the rows of no version but the first
first_rows : (f : FoundEntry) → AgreeRows (record { last = 1; kept = [] }) (founded f)
first_rows f = record { last = refl; tables = each; kept = IsPermutation-refl [] }
  where
    each : (n : ℕ) → 1 ≤ n → n ≤ 1 → now_table (founded f) n ≡ Some (as_of (record { last = 1; kept = [] }) n)
    each zero some few = absurd (omega arith)
    each (suc zero) some few = refl
    each (suc (suc n)) some few = absurd (omega arith)

-- what readers see of it
pub first_snapshot : FoundEntry → Snapshot
first_snapshot f = record { dataset = f.dataset; schema = record { number = 1; columns = f.columns }; rows = record { last = 1; kept = [] }; store = []; founded = f.stamp; updated = f.stamp }

first_shows : (f : FoundEntry) → Shows (first_snapshot f) (founded f)
unfolding first_snapshot
first_shows f = record { dataset_is = refl; schema_is = refl; parts = record { tables = first_rows f; same = refl }; founded_is = refl; updated_is = refl }

-- all that is kept of it
pub first_stands : (f : FoundEntry) (p : Present) → found_fault f.dataset f.columns f.stamp ≡ None → arc_value p.snapshot ≡ first_snapshot f → p.used ≡ [] → p.stamp ≡ f.stamp → p.entries ≡ 1
    → p.journal ≡ (founded f).journal → StandsFor p (entries.Found f ∷ []) (founded f)
first_stands f p legal seen used stamp entries journal = record {
  leads = (legal, refl);
  agrees = record {
    shows = subst (λ (s : Snapshot). Shows s (founded f)) (sym seen) (first_shows f);
    numbers = λ curator number. ap (λ (l : List UsedNumber). use_of curator number l) used;
    stamp_is = stamp;
    entries_are = entries;
    journal_is = journal;
  };
}
