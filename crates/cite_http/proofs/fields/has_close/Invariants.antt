use Rattle.std.proofs.Common.{◌≡◌}
use Rattle.std.specs.List.{list_any}
use Rattle.cite_http.specs.Fields.{is_close, has_close}
use Rattle.cite_http.specs.Cuts.{parts_left}
use Rattle.cite_http.proofs.PartLaws.{size_left}
use Rattle.cite_http.proofs.fields.has_close.Given as goal

abbrev pub invariant-loop-rest : goal.invariant-loop-rest
invariant-loop-rest l = list_any is_close (parts_left 44 l.rest) ≡ has_close l.value

abbrev pub decreases-loop-rest : goal.decreases-loop-rest
decreases-loop-rest l = size_left l.rest
