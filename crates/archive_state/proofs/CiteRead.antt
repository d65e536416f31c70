-- The plan of a citation, from what the code reads and its calls tell.
use Rattle.std.proofs.Common.{◌≡◌, ℕ, List, Option, Some, None, sym, ap, ◌∙◌, subst}
use Rattle.std.specs.Prelude.{false, Ok, Err}
use Rattle.std.specs.Arc.{arc_value}
use Rattle.cite_schema.specs.Headings.{Heading}
use Rattle.cite_schema.specs.declared.query.CiteAsk.{CiteAsk}
use Rattle.cite_schema.specs.declared.schema.Column.{Column}
use Rattle.entry_codec.specs.declared.entry.Entry.{Entry}
use Rattle.subset_query.specs.declared.form.Normal.{Normal}
use Rattle.versioned_rows.specs.Histories.{RowHistory, last_table}
use Rattle.archive_model.specs.declared.answers.Cited.{Cited}
use Rattle.archive_model.specs.declared.answers.Refused.{Refused}
use Rattle.archive_model.specs.Archives.{Archive}
use Rattle.archive_model.specs.Citing.{CiteStep}
use Rattle.archive_model.specs.Histories.{LeadsTo}
use Rattle.archive_state.specs.declared.plan.Made.{Made}
use Rattle.archive_state.specs.declared.plan.Planned.TheVariants.{Repeat, New}
use Rattle.archive_state.specs.declared.present.Present.{Present}
use Rattle.archive_state.specs.declared.snapshot.Snapshot.{Snapshot}
use Rattle.archive_state.specs.Citations.{IsFormOf, TellsForm, TellsBytes, TellsFirst, PlansCitation}
use Rattle.archive_state.specs.Planning.{Plans}
use Rattle.archive_state.specs.Standing.{StandsFor, Shows}
use Rattle.archive_state.proofs.CitePlans.{form_refused, bytes_refused, plans_repeat, plans_refusal, plans_new}

module _ (p : Present) (ask : CiteAsk) (now : ℕ) (seen : Snapshot) (heading : Heading) (seen_is : seen ≡ arc_value p.snapshot) (heading_is : heading ≡ seen.schema) (history : List Entry) (a : Archive) (stands : StandsFor p history a) where
  -- what was read is what the state has
  columns_there : heading.columns ≡ (arc_value p.snapshot).schema.columns
  columns_there = ap (λ (h : Heading). h.columns) (heading_is ∙ ap (λ (s : Snapshot). s.schema) seen_is)

  -- a refusal of the form
  pub read_form_refused : (r : Refused) → TellsForm heading.columns ask (Err r) → Plans {R = Cited} (CiteStep a ask now) history a (Err r)
  read_form_refused r h = form_refused p history a stands ask now r (subst (λ (columns : List Column). TellsForm columns ask (Err r)) columns_there h)

  module _ (form : Normal) (is : IsFormOf heading.columns ask form) (rows : RowHistory) (rows_is : rows ≡ seen.rows) where
    is_there : IsFormOf (arc_value p.snapshot).schema.columns ask form
    is_there = subst (λ (columns : List Column). IsFormOf columns ask form) columns_there is

    rows_there : rows ≡ (arc_value p.snapshot).rows
    rows_there = rows_is ∙ ap (λ (s : Snapshot). s.rows) seen_is

    -- a refusal of the bytes
    pub read_bytes_refused : (r : Refused) → TellsBytes form (last_table rows) (Err r) → Plans {R = Cited} (CiteStep a ask now) history a (Err r)
    read_bytes_refused r h = bytes_refused p history a stands ask now form is_there r (subst (λ (w : RowHistory). TellsBytes form (last_table w) (Err r)) rows_there h)

    module _ (bytes : List ℕ) (told : TellsBytes form (last_table rows) (Ok bytes)) (slice : List ℕ) (slice_is : slice ≡ bytes) (found : Option ℕ)
        (first : (h : List Entry) (b : Archive) → LeadsTo h b → Shows seen b → TellsFirst form slice b.minted found) where
      told_there : TellsBytes form (last_table (arc_value p.snapshot).rows) (Ok bytes)
      told_there = subst (λ (w : RowHistory). TellsBytes form (last_table w) (Ok bytes)) rows_there told

      first_there : (o : Option ℕ) → found ≡ o → TellsFirst form bytes a.minted o
      first_there o e =
          subst (TellsFirst form bytes a.minted) e (
          subst (λ (b : List ℕ). TellsFirst form b a.minted found) slice_is (first history a stands.leads (subst (λ (s : Snapshot). Shows s a) (sym seen_is) stands.agrees.shows)))

      -- a citation that fits
      pub read_repeat : (number : ℕ) → found ≡ Some number → Plans {R = Cited} (CiteStep a ask now) history a (Ok (Repeat (record { number = number; new = false })))
      read_repeat number e = plans_repeat p history a stands ask now form is_there bytes told_there.0 told_there.1 number (first_there (Some number) e)

      -- a new one, or its refusal
      pub read_refusal : found ≡ None → (other : List ℕ) → other ≡ bytes → (r : Refused) → ((h : List Entry) (b : Archive) → StandsFor p h b → PlansCitation b ask now other form h (Err r)) → Plans {R = Cited} (CiteStep a ask now) history a (Err r)
      read_refusal e other same r planned =
          plans_refusal p history a stands ask now form is_there bytes told_there.0 told_there.1 (first_there None e) r (subst (λ (b : List ℕ). PlansCitation a ask now b form history (Err r)) same (planned history a stands))

      pub read_new : found ≡ None → (other : List ℕ) → other ≡ bytes → (made : Made Cited) → ((h : List Entry) (b : Archive) → StandsFor p h b → PlansCitation b ask now other form h (Ok made)) → Plans {R = Cited} (CiteStep a ask now) history a (Ok (New made))
      read_new e other same made planned =
          plans_new p history a stands ask now form is_there bytes told_there.0 told_there.1 (first_there None e) made (subst (λ (b : List ℕ). PlansCitation a ask now b form history (Ok made)) same (planned history a stands))
