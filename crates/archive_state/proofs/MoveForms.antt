-- What the carrying of forms tells of citations.
use Rattle.std.proofs.Common.{◌≡◌, ℕ, zero, suc, ◌+◌, ◌<◌, ◌≤◌, List, [], ◌∷◌, ◌++◌, Option, Some, None, IsTrue, length, slice_get, refl, sym, ap, ◌∙◌, subst, arith}
use Rattle.std.specs.Prelude.{Ok}
use Rattle.std.proofs.lemmas.List.{length-map}
use Rattle.std.proofs.lemmas.Option.{same_Some}
use Rattle.cite_schema.specs.Answers.{Gives}
use Rattle.cite_schema.specs.Headings.{Heading}
use Rattle.cite_schema.specs.Tables.{is_table}
use Rattle.cite_schema.specs.declared.value.Value.{Value}
use Rattle.cite_schema.specs.declared.step.Step.{Step}
use Rattle.cite_schema.proofs.Answered.{one_text}
use Rattle.subset_query.specs.declared.form.Normal.{Normal}
use Rattle.subset_query.specs.Forms.{formed, IsSettled}
use Rattle.migration.specs.Columns.{carry_schema}
use Rattle.migration.specs.Rows.{carry_row, carry_rows}
use Rattle.migration.specs.Forms.{Carries, IsCarriedForm}
use Rattle.migration.specs.Harmless.{printed_of, all_harmless}
use Rattle.migration.proofs.HarmlessCarry.{harmless_carry}
use Rattle.migration.proofs.OneCarried.{carried_settled, carried_to_one}
use Rattle.versioned_rows.specs.Histories.{RowHistory, as_of}
use Rattle.versioned_rows.specs.Nexts.{IsNextByRule}
use Rattle.query_store.specs.declared.citation.Citation.{Citation}
use Rattle.query_store.specs.Citations.{numbered}
use Rattle.entry_codec.specs.declared.entry.Entry.{Entry}
use Rattle.archive_model.specs.Archives.{Archive, Minted, columns_of, now_table}
use Rattle.archive_model.specs.Citing.{IsFirst}
use Rattle.archive_model.specs.Histories.{LeadsTo}
use Rattle.archive_model.specs.Migrating.{IsCarried, Stays, IsHarmed}
use Rattle.archive_model.specs.ArchiveLaws.{Resolves}
use Rattle.archive_model.proofs.Counted.{counts_keep_their_limits}
use Rattle.archive_model.proofs.Sound.{citations_resolve, columns_carried}
use Rattle.archive_model.proofs.MovingDecided.{stays_alone}
use Rattle.archive_state.specs.declared.snapshot.Snapshot.{Snapshot}
use Rattle.archive_state.specs.Executing.{IsOver, minted_as}
use Rattle.archive_state.specs.Citations.{Gave}
use Rattle.archive_state.specs.Standing.{Shows, IsSeen, kept_of}
use Rattle.archive_state.specs.Migrations.{TellsFormAfter, AreFormsAfter}
use Rattle.archive_state.proofs.ExecuteGives.{shows_some}
use Rattle.archive_state.proofs.FirstMinted.{one_minted}
use Rattle.archive_state.proofs.ResolveMinted.{minted_there, minted_nowhere, each_minted}

-- what the form that is carried of a citation needs
pub record IsReadyForm (schema : Heading) (rows : RowHistory) (c : Citation) : Type 0 where
  pub settled : IsSettled schema.columns c.normal
  pub first : 1 ≤ c.issue.version
  pub last : c.issue.version ≤ rows.last

-- so it is of each citation that readers see
pub ready_form : (s : Snapshot) (number : ℕ) (c : Citation) → IsSeen s → numbered s.store number ≡ Some c → IsReadyForm s.schema s.rows c
ready_form s number c seen e =
    let (m, at, same) = minted_there seen.archive s.store number c seen.shows.parts.same e in
    let r = each_minted (Resolves seen.archive.last seen.archive.older) seen.archive number m (citations_resolve seen.history seen.archive seen.leads).citations at in
    subst (IsReadyForm s.schema s.rows) same (record {
      settled = subst (λ (h : Heading). IsSettled h.columns m.form) (sym seen.shows.schema_is) r.settled;
      first = r.from;
      last = omega (arith, r.to, seen.shows.parts.tables.last);
    })

-- the carried form shows something
pub carried_shows : (schema after : Heading) (steps : List Step) (form other : Normal) → carry_schema schema steps ≡ Ok after → IsSettled schema.columns form → Carries schema.columns steps form other → 0 < length (formed other).items
carried_shows schema after steps form other e settled carries =
    shows_some after.columns other (carried_settled 1 schema.columns after.columns steps form other (columns_carried schema after steps e) settled carries)

module _ (history : List Entry) (a : Archive) (s : Snapshot) (leads : LeadsTo history a) (shows : Shows s a) (steps : List Step) (new : RowHistory) (next : IsNextByRule (carry_row s.schema.columns steps) s.rows new) where
  cols : s.schema.columns ≡ columns_of a
  cols = ap (λ (h : Heading). h.columns) shows.schema_is

  module _ (number : ℕ) (m : Minted) (at : minted_as a number ≡ Some m) where
    resolves : Resolves a.last a.older m
    resolves = each_minted (Resolves a.last a.older) a number m (citations_resolve history a leads).citations at

    -- the table of its version is carried
    old_is : now_table a m.issue.version ≡ Some (as_of s.rows m.issue.version)
    old_is = shows.parts.tables.tables m.issue.version resolves.from resolves.to

    new_is : carry_rows (columns_of a) steps (as_of s.rows m.issue.version) ≡ Some (as_of new m.issue.version)
    new_is = subst (λ cs. carry_rows cs steps (as_of s.rows m.issue.version) ≡ Some (as_of new m.issue.version)) cols
        (next.past m.issue.version (omega (arith, resolves.to, shows.parts.tables.last)))

    -- where no form is carried, the citation is harmed
    no_form : IsCarriedForm s.schema.columns steps m.form None → IsHarmed a steps m
    no_form none = λ w. none w.0 (subst (λ cs. Carries cs steps m.form w.0) (sym cols) w.1.carries)

    module _ (form : Normal) (carries : Carries s.schema.columns steps m.form form) where
      carries_there : Carries (columns_of a) steps m.form form
      carries_there = subst (λ cs. Carries cs steps m.form form) cols carries

      -- where it stays, the carried form gives its bytes
      given : Stays a steps m → Gives (formed form) (as_of new m.issue.version) m.bytes
      given w = stays_alone a steps m form (as_of s.rows m.issue.version) (as_of new m.issue.version) carries_there old_is new_is w.0 w.1

      too_large : (size : ℕ) → IsOver (formed form) (as_of new m.issue.version) size → IsHarmed a steps m
      too_large size over = λ w.
          let same = one_text (formed form) (as_of new m.issue.version) over.bytes m.bytes over.gives (given w) in
          let within : length m.bytes ≤ 67108864 = each_minted (λ m. length m.bytes ≤ 67108864) a number m (counts_keep_their_limits history a leads).sizes at in
          absurd (omega (arith, ap length same, within, over.size_is, over.over))

      other_bytes : (bytes : List ℕ) → Gives (formed form) (as_of new m.issue.version) bytes → (Gave a number bytes → ⊥) → IsHarmed a steps m
      other_bytes bytes gives not = λ w. not (m, at, one_text (formed form) (as_of new m.issue.version) m.bytes bytes (given w) gives)

      its_bytes : (bytes : List ℕ) → Gives (formed form) (as_of new m.issue.version) bytes → Gave a number bytes → IsCarried a steps m form
      its_bytes bytes gives (k, there, are) =
          let same : m ≡ k = one_minted a number m k at there in
          record {
            carries = carries_there;
            old = as_of s.rows m.issue.version;
            old_is = old_is;
            table = as_of new m.issue.version;
            table_is = new_is;
            gives = subst (Gives (formed form) (as_of new m.issue.version)) (sym (ap (λ (w : Minted). w.bytes) same ∙ are)) gives;
          }

      -- steps that are harmless for its form let it stay
      harmless_form : (after : Heading) → carry_schema s.schema steps ≡ Ok after → IsTrue (all_harmless s.schema.columns steps (printed_of m.form)) → IsCarried a steps m form
      harmless_form after made safe =
          let sound = citations_resolve history a leads in
          let old : List (List Value) = as_of s.rows m.issue.version in
          let own = sound.tables m.issue.version resolves.from resolves.to in
          let one : own.table ≡ old = same_Some own.table old (sym own.is ∙ old_is) in
          let read : resolves.table ≡ old = same_Some resolves.table old (sym resolves.is ∙ old_is) in
          let carried = columns_carried a.last.schema after steps (ap (λ (h : Heading). carry_schema h steps) (sym shows.schema_is) ∙ made) in
          let (other, over, gives) = harmless_carry 1 (columns_of a) after.columns steps m.form old (as_of new m.issue.version) m.bytes sound.heading carried
          (subst (λ t. IsTrue (is_table (columns_of a) t)) one own.fits) resolves.settled (subst (λ cs. IsTrue (all_harmless cs steps (printed_of m.form))) cols safe) new_is
          (subst (λ t. Gives (formed m.form) t m.bytes) read resolves.gives) in
          record {
            carries = carries_there;
            old = old;
            old_is = old_is;
            table = as_of new m.issue.version;
            table_is = new_is;
            gives = subst (λ f. Gives (formed f) (as_of new m.issue.version) m.bytes) (carried_to_one (columns_of a) steps m.form other form over carries_there) gives;
          }

  -- the same, for the citation that is kept
  module _ (number : ℕ) (c : Citation) (e : numbered s.store number ≡ Some c) where
    kept_there : (m : Minted) → minted_as a number ≡ Some m → kept_of m ≡ c
    kept_there m at =
        let (k, there, same) = minted_there a s.store number c shows.parts.same e in
        ap kept_of (one_minted a number m k at there) ∙ same

    form_there : (m : Minted) → minted_as a number ≡ Some m → m.form ≡ c.normal
    form_there m at = ap (λ (k : Citation). k.normal) (kept_there m at)

    version_there : (m : Minted) → minted_as a number ≡ Some m → m.issue.version ≡ c.issue.version
    version_there m at = ap (λ (k : Citation). k.issue.version) (kept_there m at)

    pub tells_none : IsCarriedForm s.schema.columns steps c.normal None → TellsFormAfter a steps number None
    tells_none none m at = no_form number m at (subst (λ f. IsCarriedForm s.schema.columns steps f None) (sym (form_there m at)) none)

    module _ (form : Normal) (carries : Carries s.schema.columns steps c.normal form) where
      carries_of : (m : Minted) → minted_as a number ≡ Some m → Carries s.schema.columns steps m.form form
      carries_of m at = subst (λ f. Carries s.schema.columns steps f form) (sym (form_there m at)) carries

      pub tells_over : (size : ℕ) → IsOver (formed form) (as_of new c.issue.version) size → TellsFormAfter a steps number None
      tells_over size over m at = too_large number m at form (carries_of m at) size (subst (λ v. IsOver (formed form) (as_of new v) size) (sym (version_there m at)) over)

      pub tells_other : (bytes : List ℕ) → Gives (formed form) (as_of new c.issue.version) bytes → (Gave a number bytes → ⊥) → TellsFormAfter a steps number None
      tells_other bytes gives not m at = other_bytes number m at form (carries_of m at) bytes (subst (λ v. Gives (formed form) (as_of new v) bytes) (sym (version_there m at)) gives) not

      pub tells_harmless : (after : Heading) → carry_schema s.schema steps ≡ Ok after → IsTrue (all_harmless s.schema.columns steps (printed_of c.normal)) → TellsFormAfter a steps number (Some form)
      tells_harmless after made safe m at = harmless_form number m at form (carries_of m at) after made (subst (λ f. IsTrue (all_harmless s.schema.columns steps (printed_of f))) (sym (form_there m at)) safe)

      pub tells_form : (bytes : List ℕ) → Gives (formed form) (as_of new c.issue.version) bytes → Gave a number bytes → TellsFormAfter a steps number (Some form)
      tells_form bytes gives gave m at = its_bytes number m at form (carries_of m at) bytes (subst (λ v. Gives (formed form) (as_of new v) bytes) (sym (version_there m at)) gives) gave

  -- where no citation is kept under a number, none is told of
  pub tells_nowhere : (number : ℕ) (form : Option Normal) → numbered s.store number ≡ None → TellsFormAfter a steps number form
  tells_nowhere number form e m at = let clash : Some m ≡ None = sym at ∙ minted_nowhere a s.store number shows.parts.same e in absurd (cc)

module _ (a : Archive) (steps : List Step) where
  -- one form more
  pub forms_more : (ms : List Minted) (fs : List Normal) (m : Minted) (f : Normal) → AreFormsAfter a steps ms fs → slice_get ms (length fs) ≡ Some m → IsCarried a steps m f → AreFormsAfter a steps ms (fs ++ f ∷ [])
  forms_more [] [] m f h e c = absurd (cc)
  forms_more (k ∷ ks) [] m f h e c = let same : m ≡ k = cc in (subst (λ w. IsCarried a steps w f) same c, tt)
  forms_more [] (g ∷ gs) m f h e c = absurd h
  forms_more (k ∷ ks) (g ∷ gs) m f h e c = (h.0, forms_more ks gs m f h.1 e c)

  -- the citation behind those that are carried is the first that is harmed
  pub forms_stop : (ms : List Minted) (fs : List Normal) (m : Minted) → AreFormsAfter a steps ms fs → slice_get ms (length fs) ≡ Some m → IsHarmed a steps m → IsFirst (Stays a steps) (IsHarmed a steps) ms (length fs)
  forms_stop [] [] m h e harmed = absurd (cc)
  forms_stop (k ∷ ks) [] m h e harmed = let same : m ≡ k = cc in subst (IsHarmed a steps) same harmed
  forms_stop [] (g ∷ gs) m h e harmed = absurd h
  forms_stop (k ∷ ks) (g ∷ gs) m h e harmed = ((g, h.0), forms_stop ks gs m h.1 e harmed)

-- the citation that is looked up in what is kept
pub looked : (s : Snapshot) (store : List Citation) (number : ℕ) (c : Citation) → store ≡ s.store → Some c ≡ numbered store number → numbered s.store number ≡ Some c
looked s store number c same e = ap (λ (l : List Citation). numbered l number) (sym same) ∙ sym e

-- or is not there
pub not_there : (s : Snapshot) (store : List Citation) (number : ℕ) → store ≡ s.store → None ≡ numbered store number → numbered s.store number ≡ None
not_there s store number same e = ap (λ (l : List Citation). numbered l number) (sym same) ∙ sym e

-- what is carried of a schema that is read
pub carried_seen : (schema old : Heading) (steps : List Step) (form : Normal) (o p : Option Normal) → schema ≡ old → o ≡ p → IsCarriedForm schema.columns steps form o → IsCarriedForm old.columns steps form p
carried_seen schema old steps form o p same is h = subst (IsCarriedForm old.columns steps form) is (subst (λ (h : Heading). IsCarriedForm h.columns steps form o) same h)

there_at : (ms : List Minted) (k : ℕ) → k < length ms → (m : Minted) × (slice_get ms k ≡ Some m)
there_at [] k lt = absurd (omega (arith, lt))
there_at (m ∷ ms) zero lt = (m, refl)
there_at (m ∷ ms) (suc k) lt = there_at ms k (omega (arith, lt))

number_at : (a : Archive) (k : ℕ) (m : Minted) → slice_get a.minted k ≡ Some m → minted_as a (k + 1) ≡ Some m
number_at a k m e = let is : k + 1 ≡ suc k = omega arith in ap (minted_as a) is ∙ e

module _ (a : Archive) (s : Snapshot) (shows : Shows s a) (steps : List Step) (place : ℕ) (forms : List Normal) (count : length forms ≡ place) (are : AreFormsAfter a steps a.minted forms) (within : place < length s.store) where
  this_one : (m : Minted) × (slice_get a.minted place ≡ Some m)
  this_one = there_at a.minted place (subst (λ n. place < n) (ap length shows.parts.same ∙ length-map a.minted kept_of) within)

  behind : slice_get a.minted (length forms) ≡ Some this_one.0
  behind = ap (slice_get a.minted) count ∙ this_one.1

  -- the next citation is harmed: it is the first
  pub first_harmed : TellsFormAfter a steps (place + 1) None → (x : ℕ) × (place + 1 ≡ x + 1) × IsFirst (Stays a steps) (IsHarmed a steps) a.minted x
  first_harmed told =
      (place, refl, subst (IsFirst (Stays a steps) (IsHarmed a steps) a.minted) count (forms_stop a steps a.minted forms this_one.0 are behind (told this_one.0 (number_at a place this_one.0 this_one.1))))

  -- or it is carried
  pub one_carried : (form : Normal) → TellsFormAfter a steps (place + 1) (Some form) → AreFormsAfter a steps a.minted (forms ++ form ∷ [])
  one_carried form told = forms_more a steps a.minted forms this_one.0 form are behind (told this_one.0 (number_at a place this_one.0 this_one.1))
