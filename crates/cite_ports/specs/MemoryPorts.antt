-- What the source, the sink and the clock in memory are, and what a call makes of them.
use Rattle.std.specs.Prelude.{ℕ, ◌-◌, List, [], ◌∷◌, ◌++◌, length, min, drop, get_or}
use Rattle.cite_ports.specs.Ports.{next_count}

-- a source in memory: the bytes that are left, the most that a call gives, the numbers of the calls that
-- are to fail, how many calls were made, and how many faults were counted
pub record SourceState : Type 0 where
  pub rest : List ℕ
  pub piece : ℕ
  pub fails : List ℕ
  pub calls : ℕ
  pub faults : ℕ

-- a source as it is made: no call was made, and no fault was counted
abbrev pub new_source : List ℕ → ℕ → List ℕ → SourceState
new_source bytes piece fails = record { rest = bytes; piece = piece; fails = fails; calls = 0; faults = 0 }

-- the source after a call that gave n bytes
abbrev pub source_that_gave : ℕ → SourceState → SourceState
source_that_gave n s =
    record { rest = drop n s.rest; piece = s.piece; fails = s.fails; calls = next_count s.calls; faults = s.faults }

-- the source after a call that failed
abbrev pub source_that_failed : SourceState → SourceState
source_that_failed s =
    record { rest = s.rest; piece = s.piece; fails = s.fails; calls = next_count s.calls; faults = next_count s.faults }

-- a sink in memory: the bytes that were written, the numbers of the calls that are to fail, how many calls
-- were made, and how many faults were counted
pub record SinkState : Type 0 where
  pub bytes : List ℕ
  pub fails : List ℕ
  pub calls : ℕ
  pub faults : ℕ

-- a sink as it is made: nothing was written, no call was made, and no fault was counted
abbrev pub new_sink : List ℕ → SinkState
new_sink fails = record { bytes = []; fails = fails; calls = 0; faults = 0 }

-- the sink after a call that took this piece
abbrev pub sink_that_took : List ℕ → SinkState → SinkState
sink_that_took piece s =
    record { bytes = s.bytes ++ piece; fails = s.fails; calls = next_count s.calls; faults = s.faults }

-- the sink after a call that failed
abbrev pub sink_that_failed : SinkState → SinkState
sink_that_failed s =
    record { bytes = s.bytes; fails = s.fails; calls = next_count s.calls; faults = next_count s.faults }

-- a clock in memory: the moments that it gives, and those that it gave so far
pub record ClockState : Type 0 where
  pub moments : List ℕ
  pub given : List ℕ

-- a clock as it is made: it gave nothing
abbrev pub new_clock : List ℕ → ClockState
new_clock moments = record { moments = moments; given = [] }

-- the moment that comes next: the one after those that were given, or the last one where none is left
abbrev pub next_moment : ClockState → ℕ
next_moment c = get_or c.moments (min (length c.given) (length c.moments - 1)) 0

-- the clock after a call that gave this moment
abbrev pub clock_that_gave : ℕ → ClockState → ClockState
clock_that_gave moment c = record { moments = c.moments; given = c.given ++ moment ∷ [] }
