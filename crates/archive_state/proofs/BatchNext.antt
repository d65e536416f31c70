-- What is kept after a batch stands for the history with its entry.
use Rattle.std.proofs.Common.{◌≡◌, ℕ, ◌+◌, ◌-◌, ◌^◌, ◌<◌, true, List, [], ◌∷◌, ◌++◌, Some, None, Result, max, min, refl, sym, ap, ◌∙◌, subst, arith, length-append}
use Rattle.std.specs.Prelude.{Ok}
use Rattle.std.specs.Arc.{arc_value}
use Rattle.sha2.specs.Sha256.{sha256}
use Rattle.cite_schema.specs.declared.value.Value.{Value}
use Rattle.cite_schema.specs.declared.line.Line.{Line}
use Rattle.cite_schema.specs.declared.batch_ask.BatchAsk.{BatchAsk}
use Rattle.shared_pages.specs.Edits.{edited}
use Rattle.shared_pages.specs.declared.edit.Edit.TheVariants.{Put}
use Rattle.versioned_rows.specs.Histories.{RowHistory, last_table}
use Rattle.entry_codec.specs.declared.entry.Entry.{Entry}
use Rattle.entry_codec.specs.declared.entry.Entry.TheVariants as entries
use Rattle.entry_codec.specs.Payloads.{record_length}
use Rattle.archive_model.specs.declared.answers.Refused.{Refused}
use Rattle.archive_model.specs.declared.answers.Stored.{Stored}
use Rattle.archive_model.specs.Archives.{Archive, ByBatch, version_count}
use Rattle.archive_model.specs.Limits.{clock_end}
use Rattle.archive_model.specs.Outcomes.{Outcome, makes, stamped, grown}
use Rattle.archive_model.specs.Batching.{batch_of, batch_entry, with_batch, new_batch, by_number, batch_step}
use Rattle.archive_model.specs.Histories.{MayBeAsked, MakesBy, Makes}
use Rattle.archive_model.proofs.Counted.{counts_keep_their_limits}
use Rattle.archive_model.proofs.Growing.{grow}
use Rattle.archive_state.specs.declared.snapshot.Snapshot.{Snapshot}
use Rattle.archive_state.specs.declared.present.Present.{Present}
use Rattle.archive_state.specs.declared.used.UsedNumber.{UsedNumber}
use Rattle.archive_state.specs.Used.{used_cmp, used_by}
use Rattle.archive_state.specs.Limiting.{passed}
use Rattle.archive_state.specs.Standing.{Shows, Agrees, StandsFor}
use Rattle.archive_state.proofs.UsedNumbers.{TellNumbers, numbers_grow}
use Rattle.archive_state.proofs.BatchRows.{IsMade, made_by, counts_of, batch_counts, stored, journal_whole}

-- a stamp at its own moment is the same
pub max_twice : (now stamp : ℕ) → max (max now stamp) stamp ≡ max now stamp
max_twice now stamp = omega arith

-- and stays in the range
pub max_below : (now stamp end : ℕ) → now < end → stamp < end → max now stamp < end
max_below now stamp end h k = omega arith

-- the reply to a batch that is stored
abbrev pub stored_reply : Archive → Stored
stored_reply a = record { version = version_count a + 1; new = true }

-- what a new batch does
pub step_fresh : (a : Archive) (ask : BatchAsk) (now : ℕ) (r : Result Archive Refused) → batch_of ask.curator ask.number a.last a.older ≡ None → new_batch a ask now ≡ r
    → batch_step a ask now ≡ makes a (batch_entry a ask now) (stored_reply a) r
step_fresh a ask now r fresh e =
    ap (λ u. by_number a ask u (makes a (batch_entry a ask now) (stored_reply a) (new_batch a ask now))) fresh
    ∙ ap (makes a (batch_entry a ask now) (stored_reply a)) e

module _ (a : Archive) (ask : BatchAsk) (now : ℕ) where
  -- the entry at its own stamp is the same
  same_entry : batch_entry a ask (stamped a now) ≡ batch_entry a ask now
  same_entry = ap (λ s. entries.Batch (record { stamp = s; schema = ask.schema; curator = ask.curator; number = ask.number; body = ask.body })) (max_twice now a.stamp)

  -- and so is the archive that it makes
  same_archive : (lines : List Line) (table : List (List Value)) → with_batch a ask (stamped a now) lines table ≡ with_batch a ask now lines table
  same_archive lines table =
      ap (λ s. grown a (record { schema = a.last.schema; table = table; stamp = s; maker = ByBatch ask.curator ask.number (sha256 ask.body) lines })
      (entries.Batch (record { stamp = s; schema = ask.schema; curator = ask.curator; number = ask.number; body = ask.body }))) (max_twice now a.stamp)

  -- the step at the entry's own stamp makes the entry
  makes_by : (b : Archive) → batch_of ask.curator ask.number a.last a.older ≡ None → new_batch a ask (stamped a now) ≡ Ok b → MakesBy (batch_step a ask (stamped a now)) (batch_entry a ask now) b
  makes_by b fresh e =
      let step = step_fresh a ask (stamped a now) (Ok b) fresh e in
      record {
        entry_is = ap (λ (o : Outcome Stored). o.entry) step ∙ ap (λ (x : Entry). Some x) same_entry;
        after_is = ap (λ (o : Outcome Stored). o.after) step;
      }

  -- the archive makes the entry
  pub makes_entry : (rows : RowHistory) (m : IsMade a ask rows) (journal : ℕ) → MayBeAsked ask → a.stamp < clock_end → now < clock_end → batch_of ask.curator ask.number a.last a.older ≡ None
      → journal ≡ min (a.journal + record_length (batch_entry a ask now)) (2 ^ 64 - 1) → passed (counts_of rows journal) batch_counts ≡ None → Makes a (batch_entry a ask now) (made_by a ask now rows m)
  makes_entry rows m journal asked clock moment fresh whole room =
      let again = whole ∙ ap (λ (e : Entry). min (a.journal + record_length e) (2 ^ 64 - 1)) (sym same_entry) in
      let made = stored a ask (stamped a now) rows m journal again room (max_below now a.stamp clock_end moment clock) in
      (asked, makes_by (made_by a ask now rows m) fresh (made ∙ ap Ok (same_archive m.lines (last_table rows))))

-- what is kept after a batch, by what was kept before
pub record IsNextPresent (p next : Present) (rows : RowHistory) (used : UsedNumber) (stamp journal : ℕ) : Type 0 where
  pub seen : arc_value next.snapshot ≡ record (arc_value p.snapshot) { rows = rows; updated = stamp }
  pub used_is : next.used ≡ edited used_cmp p.used (Put used ∷ [])
  pub stamp_is : next.stamp ≡ stamp
  pub entries_are : next.entries ≡ p.entries + 1
  pub journal_is : next.journal ≡ journal

module _ (p : Present) (history : List Entry) (a : Archive) (ask : BatchAsk) (now : ℕ) (rows : RowHistory) (st : StandsFor p history a) (m : IsMade a ask rows) where
  -- the entry has the stamp that is computed
  pub stamp_of : (stamp : ℕ) → stamp ≡ max now p.stamp → stamp ≡ stamped a now
  stamp_of stamp e = e ∙ ap (max now) st.agrees.stamp_is

  -- readers see what the next archive says
  shows_next : Shows (record (arc_value p.snapshot) { rows = rows; updated = stamped a now }) (made_by a ask now rows m)
  shows_next = record {
    dataset_is = st.agrees.shows.dataset_is;
    schema_is = st.agrees.shows.schema_is;
    parts = record { tables = m.agree now; same = st.agrees.shows.parts.same };
    founded_is = st.agrees.shows.founded_is;
    updated_is = refl;
  }

  -- what is kept agrees with the next archive
  agrees_next : (next : Present) (journal : ℕ) → batch_of ask.curator ask.number a.last a.older ≡ None → journal ≡ a.journal + record_length (batch_entry a ask now)
      → IsNextPresent p next rows (used_by ask ((arc_value p.snapshot).rows.last + 1)) (stamped a now) journal → Agrees next (history ++ batch_entry a ask now ∷ []) (made_by a ask now rows m)
  agrees_next next journal fresh whole is = record {
    shows = subst (λ (s : Snapshot). Shows s (made_by a ask now rows m)) (sym is.seen) shows_next;
    numbers = subst (λ (us : List UsedNumber). TellNumbers us (made_by a ask now rows m)) (sym is.used_is)
        (numbers_grow a ask now m.lines (last_table rows) p.used ((arc_value p.snapshot).rows.last + 1) st.agrees.numbers fresh (ap (λ n. n + 1) st.agrees.shows.parts.tables.last));
    stamp_is = is.stamp_is;
    entries_are = is.entries_are ∙ ap (λ n. n + 1) st.agrees.entries_are ∙ sym (length-append history (batch_entry a ask now ∷ []));
    journal_is = is.journal_is ∙ whole;
  }

  -- it stands for the history with the entry
  pub stands_next : (next : Present) (stamp journal : ℕ) → MayBeAsked ask → now < clock_end → batch_of ask.curator ask.number a.last a.older ≡ None → stamp ≡ max now p.stamp
      → journal ≡ min (a.journal + record_length (batch_entry a ask now)) (2 ^ 64 - 1) → passed (counts_of rows journal) batch_counts ≡ None
      → IsNextPresent p next rows (used_by ask ((arc_value p.snapshot).rows.last + 1)) stamp journal → StandsFor next (history ++ batch_entry a ask now ∷ []) (made_by a ask now rows m)
  stands_next next stamp journal asked moment fresh stamp_is whole room is =
      let clock = (counts_keep_their_limits history a st.leads).clock in
      record {
        leads = grow history a (made_by a ask now rows m) (batch_entry a ask now) st.leads (makes_entry a ask now rows m journal asked clock moment fresh whole room);
        agrees = agrees_next next journal fresh (journal_whole a ask now rows m journal whole room)
            (subst (λ s. IsNextPresent p next rows (used_by ask ((arc_value p.snapshot).rows.last + 1)) s journal) (stamp_of stamp stamp_is) is);
      }
