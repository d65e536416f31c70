use Rattle.std.proofs.Common.{◌≡◌, List, length}
use Rattle.entry_codec.specs.declared.entry.Entry.{Entry}
use Rattle.archive_model.specs.Archives.{Archive}
use Rattle.archive_model.specs.Histories.{LeadsTo}
use Rattle.archive_state.specs.Standing.{Shows}
use Rattle.archive_state.specs.Migrations.{AreFormsAfter}
use Rattle.archive_state.proofs.migrating.forms_after.Given as goal

-- the citations so far are carried to the forms
abbrev pub invariant-loop-place : goal.invariant-loop-place
invariant-loop-place l = (length l.forms ≡ l.place) × ((history : List Entry) (a : Archive) → LeadsTo history a → Shows l.seen a → AreFormsAfter a l.steps a.minted l.forms)
