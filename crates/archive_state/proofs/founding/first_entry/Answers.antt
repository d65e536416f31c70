use Rattle.std.proofs.Common.{sym, subst}
use Rattle.cite_schema.specs.declared.dataset.Dataset.{Dataset}
use Rattle.entry_codec.specs.declared.entry.Entry.TheVariants as entries
use Rattle.entry_codec.specs.Spellable.{IsPrintable}
use Rattle.archive_state.proofs.Foundings.{founding_printable}
use Rattle.archive_state.proofs.founding.first_entry.Goals as goal

pub print_entry-requires : goal.print_entry-requires
print_entry-requires c =
    subst (λ (d : Dataset). IsPrintable (entries.Found (record { stamp = c.args.now; dataset = d; columns = c.args.columns }))) (sym c.in_ok-copied.ensures)
    (founding_printable (record { stamp = c.args.now; dataset = c.args.dataset.now; columns = c.args.columns }) c.requires.legal)

pub entry_length-requires : goal.entry_length-requires
entry_length-requires c =
    subst (λ (d : Dataset). IsPrintable (entries.Found (record { stamp = c.args.now; dataset = d; columns = c.args.columns }))) (sym c.in_ok-copied.ensures)
    (founding_printable (record { stamp = c.args.now; dataset = c.args.dataset.now; columns = c.args.columns }) c.requires.legal)
