use Rattle.std.proofs.Common.{subst}
use Rattle.std.specs.List.{AllByRecursion}
use Rattle.versioned_rows.specs.Histories.{RowHistory, rows_of}
use Rattle.versioned_rows.specs.Presence.{WasInTable}
use Rattle.versioned_rows.proofs.Presence.{rows_were}
use Rattle.versioned_rows.proofs.rows.Rows.known_rows.Goals as goal

pub returns : goal.returns
returns c =
    subst (λ (h : RowHistory). AllByRecursion (WasInTable h) (rows_of h)) c.self.view_is
    (rows_were (record { last = c.self.inside.last; kept = c.self.inside.kept }) c.self.invariant.history.there)
