-- The numbers that batches have used.
use Rattle.std.specs.Prelude.{ℕ, ◌&&◌, ◌==◌, List, Option, option_map}
use Rattle.std.specs.List.{find}
use Rattle.std.specs.Cmp.{IsTotalOrder}
use Rattle.std.specs.Ordering.{nat_cmp, ordering_then}
use Rattle.std.specs.declared.cmp.Ordering.{Ordering}
use Rattle.std.proofs.lemmas.Cmp.{nat_cmp_total, on_total, then_total}
use Rattle.sha2.specs.Sha256.{sha256}
use Rattle.cite_schema.specs.Values.{text_cmp}
use Rattle.cite_schema.proofs.Orders.{text_total}
use Rattle.cite_schema.specs.declared.batch_ask.BatchAsk.{BatchAsk}
use Rattle.batches.specs.Bodies.{is_word}
use Rattle.archive_state.specs.declared.used.UsedNumber.{UsedNumber}

-- the order of used numbers: by curator, and then by number
abbrev pub used_cmp : UsedNumber → UsedNumber → Ordering
used_cmp a b = ordering_then (text_cmp a.curator b.curator) (nat_cmp a.number b.number)

pub used_total : IsTotalOrder used_cmp
used_total = then_total (on_total (λ (u : UsedNumber). u.curator) text_total) (on_total (λ (u : UsedNumber). u.number) nat_cmp_total)

-- what a batch uses that makes a version
abbrev pub used_by : BatchAsk → ℕ → UsedNumber
used_by ask version = record { curator = ask.curator; number = ask.number; digest = sha256 ask.body; version = version }

-- the version and the digest of a used number, where it is among those
abbrev pub use_of : List ℕ → ℕ → List UsedNumber → Option (ℕ × List ℕ)
use_of curator number used = option_map (λ u. (u.version, u.digest)) (find (λ u. is_word u.curator curator && (u.number == number)) used)
