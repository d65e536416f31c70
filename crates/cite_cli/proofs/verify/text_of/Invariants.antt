use Rattle.std.proofs.Common.{◌≡◌, List}
use Rattle.entry_codec.specs.declared.entry.Entry.{Entry}
use Rattle.archive_model.specs.Archives.{Archive}
use Rattle.archive_model.specs.Histories.{LeadsTo}
use Rattle.archive_state.specs.Standing.{Shows}
use Rattle.cite_cli.proofs.Verifying.{text_to}
use Rattle.cite_cli.proofs.verify.text_of.Given as goal

abbrev pub invariant-loop-place : goal.invariant-loop-place
invariant-loop-place l = (history : List Entry) (a : Archive) → LeadsTo history a → Shows l.seen a → l.text.items ≡ text_to a l.place
