use Rattle.std.proofs.Common.{refl}
use Rattle.std.specs.Prelude.{string_bytes}
use Rattle.cite_cli.proofs.WordLists.{four_words, no_bounds}
use Rattle.cite_cli.proofs.words.select_words.Goals as goal

pub returns-in-None : goal.returns-in-None
returns-in-None c =
    let whole = four_words string_bytes c.args.words.now c.command-item.result c.column-item.result c.low-item.result c.high-item.result
    c.in-len4.len_at_least c.in-len4.len_below c.command-item.is c.column-item.is c.low-item.is c.high-item.is in
    no_bounds _ (string_bytes c.command-item.result) (string_bytes c.column-item.result) (string_bytes c.low-item.result) (string_bytes c.high-item.result) whole
    (rw (c.as_bytes.ensures.value, c.as_bytes-2.ensures.value) at c.in-None.ensures)
