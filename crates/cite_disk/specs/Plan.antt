-- Which calls of a disk in memory fail.
use Rattle.std.specs.Prelude.{◌≡◌, ◌<◌, ◌⊎◌, Contains}
use Rattle.cite_ports.specs.Ports.{next_count}
use Rattle.cite_disk.specs.declared.plan.Plan.{Plan}

-- the next call is to fail
abbrev pub IsToFail : Plan → Type 0
IsToFail p = Contains p.fails.items (next_count p.calls) ⊎ (p.stop_after < next_count p.calls)

-- a call was counted, and what is to fail is as it was
pub record IsPlanned (old new : Plan) : Type 0 where
  pub fails : new.fails ≡ old.fails
  pub stop_after : new.stop_after ≡ old.stop_after
  pub calls : new.calls ≡ next_count old.calls
