use Rattle.std.proofs.Common.{◌≡◌, ◌<◌, ◌^◌, refl, arith}
use Rattle.identifiers.specs.Names.{name_of}
use Rattle.identifiers.specs.declared.named.Named.TheVariants.{Superset, Subset}
use Rattle.datacite_meta.proofs.TextLaws.{superset_is_utf8, subset_is_utf8, meta_is_utf8, creators_have_no_float}
use Rattle.datacite_meta.proofs.metadata.meta_json.Goals as goal

pub creators-requires : goal.creators-requires
creators-requires c = rw c.as_slice-3.ensures (meta_is_utf8 c.args.issue.now.meta c.requires.issue.meta).0

pub string_of-requires : goal.string_of-requires
string_of-requires c =
    let name : c.as_slice-4.result.now ≡ name_of c.args.dataset.now.prefix (Subset c.args.issue.now.number) = cc (c.as_slice-4.ensures, c.in_ok-id.ensures, c.as_slice.ensures) in
    let small : c.args.issue.now.number < 2 ^ 32 = omega arith in
    rw name (subset_is_utf8 c.args.dataset.now.prefix c.args.issue.now.number c.requires.dataset.prefix small)

pub string_of-requires-3 : goal.string_of-requires-3
string_of-requires-3 c =
    let name : c.as_slice-6.result.now ≡ name_of c.args.dataset.now.prefix Superset = cc (c.as_slice-6.ensures, c.in_ok-whole.ensures, c.as_slice-2.ensures) in
    rw name (superset_is_utf8 c.args.dataset.now.prefix c.requires.dataset.prefix)

pub print-requires : goal.print-requires
print-requires c =
    rw (c.in_ok-metadata.ensures, c.in_ok-creators.ensures, c.in_ok-dates.ensures, c.in_ok-identifiers.ensures, c.in_ok-parts_of.ensures, c.in_ok-titles.ensures, creators_have_no_float c.as_slice-3.result.now) refl
