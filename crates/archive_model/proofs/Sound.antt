-- In every archive to which a history leads, each version has a table and each citation resolves to its bytes.
use Rattle.std.proofs.Common.{◌≡◌, ℕ, ◌+◌, ◌<◌, ◌≤◌, Bool, true, false, List, [], ◌∷◌, ◌++◌, Option, Some, None, Result, IsTrue, length, map, refl, sym, ap, ◌∙◌, subst, arith}
use Rattle.std.specs.Prelude.{Ok, option_map, nat_le, ◌&&◌, ◌==◌, unwrap_or, is_none, if◌then◌else◌}
use Rattle.std.specs.List.{AllByRecursion, list_all}
use Rattle.std.specs.Option.{option_and_then}
use Rattle.std.proofs.lemmas.Bool.Decides.{nat_tests}
use Rattle.cite_schema.specs.Headings.{Heading, heading_fault}
use Rattle.cite_schema.specs.Queries.{asked}
use Rattle.cite_schema.specs.Tables.{fits, is_table}
use Rattle.cite_schema.specs.declared.value.Value.{Value}
use Rattle.cite_schema.specs.declared.schema.Column.{Column}
use Rattle.cite_schema.specs.declared.step.Step.{Step}
use Rattle.cite_schema.specs.declared.batch_ask.BatchAsk.{BatchAsk}
use Rattle.cite_schema.specs.declared.query.CiteAsk.{CiteAsk}
use Rattle.cite_schema.proofs.Rising.{and_first}
use Rattle.cite_schema.proofs.Results.{demanded, gave}
use Rattle.migration.specs.Columns.{columns_after_all, carry_schema}
use Rattle.migration.specs.Rows.{carry_row, carry_rows}
use Rattle.migration.proofs.Tabled.{carried_table}
use Rattle.migration.proofs.OneCarried.{carried_settled}
use Rattle.migration.proofs.SchemaColumns.{carried_headings}
use Rattle.cite_schema.proofs.WellNamed.{are_well_named}
use Rattle.subset_query.specs.declared.form.Normal.{Normal}
use Rattle.versioned_rows.specs.Histories.{first_version, lost_key}
use Rattle.versioned_rows.proofs.Tabled.{lines_make_tables}
use Rattle.sha2.specs.Sha256.{sha256}
use Rattle.migration.specs.declared.fault.StepFault.{StepFault}
use Rattle.entry_codec.specs.declared.entry.Entry.{Entry}
use Rattle.entry_codec.specs.declared.entry.Entry.TheVariants.{Found, Batch, Cite, Migrate}
use Rattle.archive_model.specs.declared.answers.Refused.TheVariants as refusals
use Rattle.archive_model.specs.declared.answers.Cited.{Cited}
use Rattle.archive_model.specs.declared.answers.Moved.{Moved}
use Rattle.archive_model.specs.Archives.{Archive, Version, Minted, ByMigration, ByBatch, columns_of, version_count, all_carried_by, table_in, now_table}
use Rattle.archive_model.specs.Outcomes.{Outcome}
use Rattle.archive_model.specs.Batching.{with_batch}
use Rattle.archive_model.specs.Citing.{with_citation, new_minted}
use Rattle.archive_model.specs.Migrating.{with_migration, overflow, IsCarried, AreCarried}
use Rattle.entry_codec.specs.declared.entry.FoundEntry.{FoundEntry}
use Rattle.archive_model.specs.Histories.{Makes, MakesBy, Runs, LeadsTo, found_fault, founded, batch_ask, cite_ask}
use Rattle.archive_model.specs.ArchiveLaws.{HasTable, Resolves, IsSound, CitationsResolve}
use Rattle.archive_model.proofs.Founded.{founded_heading}
use Rattle.archive_model.proofs.Lists.{all_push, all_turned}
use Rattle.archive_model.proofs.BatchLines.{body_fits_lines}
use Rattle.archive_model.proofs.Made.{IsBatched, batched, IsCited, cited, IsMoved, moved}
use Rattle.archive_model.proofs.Tables.{batch_carries, last_table_in, older_table_in, grown_tables, none_lost, none_first}

columns_in : (n : ℕ) (columns : List Column) (h : Heading) → ◌≡◌ {A = Result Heading StepFault} (Ok (record { number = n; columns = columns })) (Ok h) → columns ≡ h.columns
columns_in n columns h e = let same : record { number = n; columns = columns } ≡ h = cc in ap (λ (w : Heading). w.columns) same

-- a schema that is carried has the columns after the steps
pub columns_carried : (old new : Heading) (steps : List Step) → carry_schema old steps ≡ Ok new → columns_after_all 1 old.columns steps ≡ Ok new.columns
columns_carried old new steps e =
    let (few, e1) = demanded (nat_le 1 (length steps) && nat_le (length steps) 16) _ _ new e in
    let (columns, are, e2) = gave (columns_after_all 1 old.columns steps) (λ fault. fault) _ new e1 in
    are ∙ ap Ok (columns_in (old.number + 1) columns new e2)

pub unmapped : {A B : Type 0} (f : A → B) (o : Option A) → option_map f o ≡ None → o ≡ None
unmapped f None e = refl
unmapped f (Some x) e = absurd (cc)

-- the archive is sound
abbrev pub Sound : Archive → Type 0
Sound a = IsSound a.last a.older a.minted

module _ (a : Archive) (sound : Sound a) where
  pub some_column : 0 < length (columns_of a)
  some_column = (are_well_named (columns_of a) sound.heading).some

  -- the last table is a table of the present schema
  pub last_fits : IsTrue (is_table (columns_of a) a.last.table)
  last_fits =
      let h = sound.tables (version_count a) (omega arith) (omega arith) in
      let same : Some a.last.table ≡ Some h.table = sym (last_table_in a.last a.older) ∙ h.is in
      let one : h.table ≡ a.last.table = cc in
      subst (λ t. IsTrue (is_table (columns_of a) t)) one h.fits

  sound_batch : (ask : BatchAsk) (now : ℕ) (e : Entry) (b : Archive) → IsBatched a ask now e b → Sound b
  sound_batch ask now e b m = subst Sound m.is (record {
    heading = sound.heading;
    tables = grown_tables next.last a.last a.older sound.tables own (λ n h from to. (h.table, batch_carries (columns_of a) ask.curator ask.number (sha256 ask.body) m.lines h.table, h.fits));
    citations = all_turned (Resolves a.last a.older) (Resolves next.last next.older) stays a.minted sound.citations;
  })
    where
      next : Archive
      next = with_batch a ask now m.lines m.table

      own : IsTrue (is_table (columns_of a) m.table)
      own = lines_make_tables 1 (columns_of a) m.lines a.last.table m.table (body_fits_lines (columns_of a) ask.body m.lines m.lines_are) last_fits m.table_is

      stays : (k : Minted) → Resolves a.last a.older k → Resolves next.last next.older k
      stays k r = record {
        settled = r.settled;
        from = r.from;
        to = omega (arith, r.to);
        table = r.table;
        is = older_table_in next.last a.last a.older k.issue.version r.to ∙ ap (option_and_then (all_carried_by (columns_of a) next.last.maker)) r.is ∙ batch_carries (columns_of a) ask.curator ask.number (sha256 ask.body) m.lines r.table;
        gives = r.gives;
      }

  sound_cite : (ask : CiteAsk) (now : ℕ) (o : Outcome Cited) (e : Entry) (b : Archive) → IsCited a ask now o e b → Sound b
  sound_cite ask now o e b m = subst Sound m.is (record {
    heading = sound.heading;
    tables = sound.tables;
    citations = all_push (Resolves a.last a.older) a.minted (new_minted a ask now m.answered.bytes m.minting.form) sound.citations (record {
      settled = m.minting.settled;
      from = omega arith;
      to = omega arith;
      table = a.last.table;
      is = last_table_in a.last a.older;
      gives = (m.minting.alike a.last.table last_fits m.answered.bytes).0 m.answered.gives;
    });
  })

  -- where no row is lost, the rows of each version are carried
  pub rows_carried : (steps : List Step) → overflow a steps ≡ None → (n : ℕ) (h : HasTable a.last a.older n) → 1 ≤ n → n ≤ version_count a
      → (t : List (List Value)) × (carry_rows (columns_of a) steps h.table ≡ Some t)
  rows_carried steps none_over n h from to =
      let found : ℕ → Option Value = λ k. option_and_then (lost_key (carry_row (columns_of a) steps)) (now_table a k) in
      let none : first_version (version_count a) found ≡ None = unmapped _ _ none_over in
      let lost : lost_key (carry_row (columns_of a) steps) h.table ≡ None = ap (option_and_then (lost_key (carry_row (columns_of a) steps))) (sym h.is) ∙ none_first (version_count a) found none n from to in
      none_lost (columns_of a) (carry_row (columns_of a) steps) h.table some_column (and_first _ _ h.fits) lost

  module _ (steps : List Step) (now : ℕ) (o : Outcome Moved) (e : Entry) (b : Archive) (m : IsMoved a steps now o e b) where
    abbrev next : Archive
    next = with_migration a m.schema steps now

    -- the columns after the steps
    columns_are : columns_after_all 1 (columns_of a) steps ≡ Ok m.schema.columns
    columns_are = columns_carried a.last.schema m.schema steps m.schema_is

    -- the table of each version is carried to a table
    carried_tables : (n : ℕ) (h : HasTable a.last a.older n) → 1 ≤ n → n ≤ version_count a
        → (t : List (List Value)) × (carry_rows (columns_of a) steps h.table ≡ Some t) × IsTrue (is_table m.schema.columns t)
    carried_tables n h from to =
        let (t, is) = rows_carried steps m.none_lost n h from to in
        (t, is, carried_table 1 (columns_of a) m.schema.columns steps h.table t some_column columns_are h.fits is)

    -- the last table is carried to a table
    own : IsTrue (is_table m.schema.columns next.last.table)
    own =
        let h : HasTable a.last a.older (version_count a) = record { table = a.last.table; is = last_table_in a.last a.older; fits = last_fits } in
        let (t, is, fit) = carried_tables (version_count a) h (omega arith) (omega arith) in
        subst (λ o. IsTrue (is_table m.schema.columns (unwrap_or o []))) (sym is) fit

    -- a citation that is carried resolves
    carried_resolves : (k : Minted) (form : Normal) → Resolves a.last a.older k → IsCarried a steps k form → Resolves next.last next.older (record k { form = form })
    carried_resolves k form r c = record {
      settled = carried_settled 1 (columns_of a) m.schema.columns steps k.form form columns_are r.settled c.carries;
      from = r.from;
      to = omega (arith, r.to);
      table = c.table;
      is = older_table_in next.last a.last a.older k.issue.version r.to ∙ ap (option_and_then (all_carried_by (columns_of a) (ByMigration steps))) c.old_is ∙ c.table_is;
      gives = c.gives;
    }

    all_resolve : (ms ks : List Minted) → AreCarried a steps ms ks → AllByRecursion (Resolves a.last a.older) ms → AllByRecursion (Resolves next.last next.older) ks
    all_resolve [] [] h r = tt
    all_resolve [] (k ∷ ks) h r = absurd h
    all_resolve (i ∷ is) [] h r = absurd h
    all_resolve (i ∷ is) (k ∷ ks) h r = (subst (Resolves next.last next.older) (sym h.1) (carried_resolves i k.form r.0 h.0), all_resolve is ks h.2 r.1)

    sound_move : Sound b
    sound_move = subst Sound m.is (record {
      heading = carried_headings 1 (columns_of a) m.schema.columns steps columns_are sound.heading;
      tables = grown_tables next.last a.last a.older sound.tables own carried_tables;
      citations = all_resolve a.minted m.verdict.minted m.verdict.carried sound.citations;
    })

  sound_makes : (e : Entry) (b : Archive) → Makes a e b → Sound b
  sound_makes (Found e) b h = absurd h
  sound_makes (Batch e) b h = sound_batch (batch_ask e) e.stamp (Batch e) b (batched a (batch_ask e) e.stamp (Batch e) b h.1)
  sound_makes (Cite e) b (o, s, m) = sound_cite (cite_ask e) e.stamp o (Cite e) b (cited a (cite_ask e) e.stamp o (Cite e) b s m)
  sound_makes (Migrate e) b (o, s, m) = sound_move e.steps e.stamp o (Migrate e) b (moved a e.schema e.steps e.stamp o (Migrate e) b s m)

sound_runs : (a : Archive) (es : List Entry) (b : Archive) → Sound a → Runs a es b → Sound b
sound_runs a [] b sound h = subst Sound h sound
sound_runs a (e ∷ es) b sound (next, m, h) = sound_runs next es b (sound_makes a sound e next m) h

the_first : (n : ℕ) → 1 ≤ n → n ≤ 0 + 1 → (n == 1) ≡ true
the_first n from to = grind (arith, nat_tests)

sound_founded : (f : FoundEntry) → found_fault f.dataset f.columns f.stamp ≡ None → Sound (founded f)
sound_founded f e = record {
  heading = ap is_none (founded_heading f e);
  tables = λ n from to. record { table = []; is = rw (the_first n from to) refl; fits = refl };
  citations = tt;
}

pub citations_resolve : CitationsResolve
citations_resolve [] a h = absurd h
citations_resolve (Found f ∷ es) a h = sound_runs (founded f) es a (sound_founded f h.0) h.1
citations_resolve (Batch e ∷ es) a h = absurd h
citations_resolve (Cite e ∷ es) a h = absurd h
citations_resolve (Migrate e ∷ es) a h = absurd h
