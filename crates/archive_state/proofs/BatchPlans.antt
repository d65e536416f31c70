-- The plan of a batch is what the archive does.
use Rattle.std.proofs.Common.{◌≡◌, ℕ, Bool, true, false, List, Option, Some, None, Result, refl, sym, ap, ◌∙◌, subst}
use Rattle.std.specs.Prelude.{Ok, Err, option_map, if◌then◌else◌}
use Rattle.std.specs.List.{find}
use Rattle.std.specs.Ordering.{is_eq}
use Rattle.sha2.specs.Sha256.{sha256}
use Rattle.cite_schema.specs.declared.batch_ask.BatchAsk.{BatchAsk}
use Rattle.batches.specs.Bodies.{is_word}
use Rattle.entry_codec.specs.declared.entry.Entry.{Entry}
use Rattle.archive_model.specs.declared.answers.Refused.{Refused}
use Rattle.archive_model.specs.declared.answers.Refused.TheVariants as refusals
use Rattle.archive_model.specs.declared.answers.Stored.{Stored}
use Rattle.archive_model.specs.Archives.{Archive}
use Rattle.archive_model.specs.Outcomes.{Outcome, makes, repeats, refuses}
use Rattle.archive_model.specs.Batching.{batch_of, batch_entry, new_batch, by_number, batch_step}
use Rattle.archive_state.specs.declared.present.Present.{Present}
use Rattle.archive_state.specs.declared.used.UsedNumber.{UsedNumber}
use Rattle.archive_state.specs.declared.plan.Made.{Made}
use Rattle.archive_state.specs.declared.plan.Planned.{Planned}
use Rattle.archive_state.specs.declared.plan.Planned.TheVariants.{Repeat, New}
use Rattle.archive_state.specs.Used.{used_cmp, used_by}
use Rattle.archive_state.specs.Standing.{StandsFor}
use Rattle.archive_state.specs.Planning.{Plans}
use Rattle.archive_state.specs.Batches.{told_by, PlansBatch}
use Rattle.archive_state.proofs.UsedNumbers.{told, found_use}
use Rattle.archive_state.proofs.BatchNext.{stored_reply, step_fresh}

module _ (p : Present) (history : List Entry) (a : Archive) (ask : BatchAsk) (now version : ℕ) (st : StandsFor p history a) where
  -- what is found under the batch's number is what the archive says of it
  said : (o : Option UsedNumber) → find (λ u. is_eq (used_cmp u (used_by ask version))) p.used ≡ o → batch_of ask.curator ask.number a.last a.older ≡ option_map told o
  said o e = sym (st.agrees.numbers ask.curator ask.number) ∙ sym (found_use p.used (used_by ask version)) ∙ ap (option_map told) e

  -- nothing is found: the number is new
  pub is_fresh : find (λ u. is_eq (used_cmp u (used_by ask version))) p.used ≡ None → batch_of ask.curator ask.number a.last a.older ≡ None
  is_fresh e = said None e

  -- the archive's answer to a used number
  abbrev answer : UsedNumber → Bool → Outcome Stored
  answer found b = if b then repeats a (record { version = found.version; new = false }) else refuses a (refusals.NumberUsed found.version)

  -- the plan by the digest is that answer
  by_digest : (found : UsedNumber) (b : Bool) → batch_step a ask now ≡ answer found b
      → Plans (λ o. o ≡ batch_step a ask now) history a (if b then Ok (Repeat (record { version = found.version; new = false })) else Err (refusals.NumberUsed found.version))
  by_digest found true e = sym e
  by_digest found false e = sym e

  -- the number is used: the plan is a repeat or a refusal
  pub plans_told : (found : UsedNumber) → find (λ u. is_eq (used_cmp u (used_by ask version))) p.used ≡ Some found → Plans (λ o. o ≡ batch_step a ask now) history a (told_by found (sha256 ask.body))
  plans_told found e =
      by_digest found (is_word found.digest (sha256 ask.body))
      (ap (λ u. by_number a ask u (makes a (batch_entry a ask now) (stored_reply a) (new_batch a ask now))) (said (Some found) e))

-- the plan of a new number is that of the batch
pub plans_new : (history : List Entry) (a : Archive) (ask : BatchAsk) (now : ℕ) (m : Made Stored) → batch_of ask.curator ask.number a.last a.older ≡ None → PlansBatch a ask now history (Ok m)
    → Plans (λ o. o ≡ batch_step a ask now) history a (Ok (New m))
plans_new history a ask now m fresh v = record {
  outcome = makes a (batch_entry a ask now) (stored_reply a) (Ok v.next);
  is = sym (step_fresh a ask now (Ok v.next) fresh v.makes);
  entry = batch_entry a ask now;
  entry_is = refl;
  reply_is = ap Ok (sym v.reply_is);
  payload_is = v.payload_is;
  fits = v.fits;
  stands = v.stands;
}

-- or its refusal
pub plans_refused : (history : List Entry) (a : Archive) (ask : BatchAsk) (now : ℕ) (refusal : Refused) → batch_of ask.curator ask.number a.last a.older ≡ None → PlansBatch a ask now history (Err refusal)
    → Plans (λ o. o ≡ batch_step a ask now) history a (Err refusal)
plans_refused history a ask now refusals.NoMemory fresh e = tt
plans_refused history a ask now (refusals.NumberUsed version) fresh e = sym (step_fresh a ask now (Err (refusals.NumberUsed version)) fresh e)
plans_refused history a ask now (refusals.WrongSchema current) fresh e = sym (step_fresh a ask now (Err (refusals.WrongSchema current)) fresh e)
plans_refused history a ask now (refusals.Body fault) fresh e = sym (step_fresh a ask now (Err (refusals.Body fault)) fresh e)
plans_refused history a ask now (refusals.Lines fault) fresh e = sym (step_fresh a ask now (Err (refusals.Lines fault)) fresh e)
plans_refused history a ask now (refusals.Query fault) fresh e = sym (step_fresh a ask now (Err (refusals.Query fault)) fresh e)
plans_refused history a ask now (refusals.BadMeta part) fresh e = sym (step_fresh a ask now (Err (refusals.BadMeta part)) fresh e)
plans_refused history a ask now (refusals.Steps fault) fresh e = sym (step_fresh a ask now (Err (refusals.Steps fault)) fresh e)
plans_refused history a ask now (refusals.ResultTooLarge bytes) fresh e = sym (step_fresh a ask now (Err (refusals.ResultTooLarge bytes)) fresh e)
plans_refused history a ask now (refusals.EntryTooLarge bytes) fresh e = sym (step_fresh a ask now (Err (refusals.EntryTooLarge bytes)) fresh e)
plans_refused history a ask now (refusals.Overflow version key) fresh e = sym (step_fresh a ask now (Err (refusals.Overflow version key)) fresh e)
plans_refused history a ask now (refusals.Full limit) fresh e = sym (step_fresh a ask now (Err (refusals.Full limit)) fresh e)
plans_refused history a ask now (refusals.CitedSubset number) fresh e = sym (step_fresh a ask now (Err (refusals.CitedSubset number)) fresh e)
plans_refused history a ask now (refusals.ClockRange moment) fresh e = sym (step_fresh a ask now (Err (refusals.ClockRange moment)) fresh e)
plans_refused history a ask now refusals.DiskFailed fresh e = sym (step_fresh a ask now (Err refusals.DiskFailed) fresh e)

-- the number of a batch, as the plan looks it up
module _ (p : Present) (ask : BatchAsk) (now version : ℕ) (used : UsedNumber) (same : used ≡ used_by ask version) where
  -- what is found at the number
  looked_up : (o : Option UsedNumber) → o ≡ find (λ u. is_eq (used_cmp u used)) p.used → find (λ u. is_eq (used_cmp u (used_by ask version))) p.used ≡ o
  looked_up o e = ap (λ (v : UsedNumber). find (λ u. is_eq (used_cmp u v)) p.used) (sym same) ∙ sym e

  -- nothing is found
  pub none_found : (history : List Entry) (a : Archive) → StandsFor p history a → None ≡ find (λ u. is_eq (used_cmp u used)) p.used → batch_of ask.curator ask.number a.last a.older ≡ None
  none_found history a st e = is_fresh p history a ask now version st (looked_up None e)

  -- one is found, and decides
  pub one_found : (found : UsedNumber) (result : Result (Planned Stored) Refused) → Some found ≡ find (λ u. is_eq (used_cmp u used)) p.used → result ≡ told_by found used.digest
      → (history : List Entry) (a : Archive) → StandsFor p history a → Plans (λ o. o ≡ batch_step a ask now) history a result
  one_found found result e is history a st =
      subst (λ (r : Result (Planned Stored) Refused). Plans (λ o. o ≡ batch_step a ask now) history a r)
      (sym (is ∙ ap (λ (u : UsedNumber). told_by found u.digest) same))
      (plans_told p history a ask now version st found (looked_up (Some found) e))
