use Rattle.std.proofs.Common.{sym, subst, Option}
use Rattle.identifiers.specs.declared.named.Named.{Named}
use Rattle.identifiers.specs.Names.{suffix_of}
use Rattle.identifiers.specs.Parts.{IsReadBy}
use Rattle.identifiers.proofs.Spellings.{no_number}
use Rattle.identifiers.proofs.reading.read_suffix.Goals as goal

pub returns-in_err-number : goal.returns-in_err-number
returns-in_err-number c =
    subst (λ (read : Option Named). IsReadBy suffix_of c.args.suffix.now read) (sym c.from_residual-in_err-number.ensures)
    (no_number c.args.suffix.now c.in_ok-behind.field-0.now (λ same. let true_too = c.if-eq_ignore_ascii_case.ensures.test.1 same in absurd (cc)) c.in_ok-behind.ensures.1 (λ number numbered printed. c.in_err-number.ensures number (numbered.0, numbered.1, printed)))
