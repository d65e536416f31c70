use Rattle.std.proofs.Common.{◌≡◌, map, take}
use Rattle.serde_json.specs.View.{view}
use Rattle.datacite_meta.specs.Metadata.{creator}
use Rattle.datacite_meta.proofs.values.creators.Given as goal

abbrev pub invariant-loop-name : goal.invariant-loop-name
invariant-loop-name l = map view l.values.items ≡ map creator (take l.name-index l.names)
