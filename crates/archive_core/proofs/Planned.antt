-- What is planned can be written.
use Rattle.std.proofs.Common.{◌≡◌, ℕ, ◌≤◌, List, [], ◌∷◌, ◌++◌, Result, length, sym, ap, ◌∙◌, subst, arith}
use Rattle.std.specs.Prelude.{Ok, Err}
use Rattle.entry_codec.specs.declared.entry.Entry.{Entry}
use Rattle.archive_model.specs.declared.answers.Refused.{Refused}
use Rattle.archive_model.specs.Archives.{Archive}
use Rattle.archive_model.specs.Limits.{JournalBytes}
use Rattle.archive_model.specs.Outcomes.{Outcome}
use Rattle.archive_model.specs.Histories.{journal_length}
use Rattle.archive_model.proofs.Counted.{counts_keep_their_limits}
use Rattle.archive_state.specs.declared.present.Present.{Present}
use Rattle.archive_state.specs.declared.plan.Made.{Made}
use Rattle.archive_state.specs.declared.plan.Planned.{Planned}
use Rattle.archive_state.specs.declared.plan.Planned.TheVariants.{Repeat, New}
use Rattle.archive_state.specs.Standing.{StandsFor}
use Rattle.archive_state.specs.Planning.{PlansEntry, Plans}
use Rattle.archive_core.specs.Keeping.{Held}
use Rattle.archive_core.specs.Answering.{CanBeAdded, CanBeWritten}
use Rattle.archive_core.proofs.Lengths.{journal_length_grows}
use Rattle.archive_core.proofs.EntrySizes.{follower_is_small}

-- what is kept says how long the history's journal is
pub counted_end : (p : Present) (history : List Entry) (a : Archive) → StandsFor p history a → p.journal ≡ journal_length history
counted_end p history a s = s.agrees.journal_is ∙ (counts_keep_their_limits history a s.leads).journal

can_be_added : {R : Type 0} (step : Outcome R → Type 0) (history : List Entry) (a : Archive) (held : Held) (made : Made R) → StandsFor held.present history a → PlansEntry step history made → CanBeAdded held made
can_be_added step history a held made s plan =
    let grown = history ++ plan.entry ∷ [] in
    let after = plan.outcome.after in
    let old = counted_end held.present history a s in
    let new = counted_end made.next grown after plan.stands in
    let more = journal_length_grows history plan.entry in
    let same = ap length plan.payload_is in
    let kept = (counts_keep_their_limits grown after plan.stands.leads).limits JournalBytes in
    record {
      stands = record { history = grown; archive = after; stands = plan.stands };
      small = subst (λ (p : List ℕ). length p ≤ 16777216) (sym plan.payload_is) (follower_is_small history plan.entry after plan.stands.leads);
      counted = omega (arith, old, new, more, same);
      within = subst (λ n. n ≤ 1073741824) (sym plan.stands.agrees.journal_is) kept;
    }

pub can_be_written : {R : Type 0} (step : Outcome R → Type 0) (history : List Entry) (a : Archive) (held : Held) (planned : Result (Planned R) Refused) → StandsFor held.present history a → Plans step history a planned → CanBeWritten held planned
can_be_written step history a held (Ok (New made)) s plan = can_be_added step history a held made s plan
can_be_written step history a held (Ok (Repeat reply)) s plan = tt
can_be_written step history a held (Err refusal) s plan = tt
