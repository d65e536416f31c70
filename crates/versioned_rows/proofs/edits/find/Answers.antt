use Rattle.std.proofs.Common.{ap, ◌∙◌, refl, sym, subst}
use Rattle.std.specs.List.{AllByRecursion}
use Rattle.cite_schema.specs.Tables.{key_cmp}
use Rattle.cite_schema.proofs.Orders.{key_total}
use Rattle.versioned_rows.specs.Parts.{tested}
use Rattle.versioned_rows.specs.Keeping.{WasThere}
use Rattle.versioned_rows.proofs.Looking.{tested_last}
use Rattle.versioned_rows.proofs.edits.find.Goals as goal

pub returns : goal.returns
returns c =
    c.tested.ensures ∙ ap (tested key_cmp c.args.probe.now.row) c.last_up_to.ensures
    ∙ tested_last key_cmp key_total c.args.probe.now.row c.args.kept.now c.args.probe.now refl (subst (λ n. AllByRecursion (WasThere n) c.args.kept.now) (sym c.requires.top) c.requires.there) c.requires.settled
