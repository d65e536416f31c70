use Rattle.std.proofs.Common.{inl, inr, refl, codes}
use Rattle.identifiers.proofs.Spellings.{spelled, read_last}
use Rattle.identifiers.proofs.reading.read.Goals as goal

pub returns-in-Some-read_behind : goal.returns-in-Some-read_behind
returns-in-Some-read_behind c = spelled c.args.prefix.now c.args.text.now (codes "doi:") c.in-Some-read_behind.named (inr (inl refl)) c.in-Some-read_behind.ensures

pub returns : goal.returns
returns c = read_last c.args.prefix.now c.args.text.now c.read_behind-3.result c.in_default.ensures c.in_default-read_behind.ensures c.read_behind-3.ensures
