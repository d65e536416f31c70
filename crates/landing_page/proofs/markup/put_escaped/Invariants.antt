use Rattle.std.proofs.Common.{◌≡◌, ◌++◌, take}
use Rattle.landing_page.specs.Pages.{escaped}
use Rattle.landing_page.proofs.markup.put_escaped.Given as goal

abbrev pub invariant-loop-byte : goal.invariant-loop-byte
invariant-loop-byte l = l.text.items ≡ l.initial.text.items ++ escaped (take l.byte-index l.inserted)
