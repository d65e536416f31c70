use Rattle.std.proofs.Common.{sym, subst, Option, None, ◌++◌}
use Rattle.identifiers.specs.declared.named.Named.{Named}
use Rattle.identifiers.specs.Names.{suffix_of, name_of}
use Rattle.identifiers.specs.Parts.{IsReadBy}
use Rattle.identifiers.proofs.Spellings.{no_front, read_behind_front}
use Rattle.identifiers.proofs.reading.read_behind.Goals as goal

pub returns-in_err-name : goal.returns-in_err-name
returns-in_err-name c =
    subst (λ (read : Option Named). IsReadBy (λ named. c.args.lead.now ++ name_of c.args.prefix.now named) c.args.text.now read) (sym c.from_residual.ensures)
    (no_front (name_of c.args.prefix.now) c.args.lead.now c.args.text.now c.in_err-name.ensures)

pub returns-in_err-behind : goal.returns-in_err-behind
returns-in_err-behind c =
    subst (λ (read : Option Named). IsReadBy (λ named. c.args.lead.now ++ name_of c.args.prefix.now named) c.args.text.now read) (sym c.from_residual-in_err-behind.ensures)
    (read_behind_front (name_of c.args.prefix.now) c.args.lead.now c.args.text.now c.in_ok-name.name.now None c.in_ok-name.ensures.0 c.in_ok-name.ensures.1
    (no_front suffix_of c.args.prefix.now c.in_ok-name.name.now c.in_err-behind.ensures))

pub returns : goal.returns
returns c =
    read_behind_front (name_of c.args.prefix.now) c.args.lead.now c.args.text.now c.in_ok-name.name.now c.read_suffix.result c.in_ok-name.ensures.0 c.in_ok-name.ensures.1
    (read_behind_front suffix_of c.args.prefix.now c.in_ok-name.name.now c.in_ok-behind.field-0.now c.read_suffix.result c.in_ok-behind.ensures.0 c.in_ok-behind.ensures.1 c.read_suffix.ensures)
