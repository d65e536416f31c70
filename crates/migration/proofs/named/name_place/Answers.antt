use Rattle.std.proofs.Common.{◌∙◌, ap}
use Rattle.std.specs.Prelude.{unwrap_or}
use Rattle.std.specs.Ordering.{is_eq}
use Rattle.cite_schema.specs.Values.{text_cmp}
use Rattle.migration.proofs.Naming.{position_mapped}
use Rattle.migration.proofs.named.name_place.Goals as goal

pub returns : goal.returns
returns c = c.unwrap_or.ensures ∙ ap (λ o. unwrap_or o 0) (c.name_position.ensures ∙ position_mapped (λ n. n.now) (λ n. is_eq (text_cmp n c.args.name.now)) c.args.names.now)
