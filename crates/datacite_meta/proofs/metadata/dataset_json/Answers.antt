use Rattle.std.proofs.Common.{◌≡◌}
use Rattle.identifiers.specs.Names.{name_of}
use Rattle.identifiers.specs.declared.named.Named.TheVariants.{Superset}
use Rattle.datacite_meta.proofs.TextLaws.{superset_is_utf8}
use Rattle.datacite_meta.proofs.metadata.dataset_json.Goals as goal

pub string_of-requires : goal.string_of-requires
string_of-requires c =
    let name : c.as_slice-2.result.now ≡ name_of c.args.dataset.now.prefix Superset = cc (c.as_slice-2.ensures, c.in_ok-id.ensures, c.as_slice.ensures) in
    rw name (superset_is_utf8 c.args.dataset.now.prefix c.requires.dataset.prefix)
