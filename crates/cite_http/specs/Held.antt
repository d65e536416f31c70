-- What a reader holds.
use Rattle.std.specs.Prelude.{◌≡◌, ◌≤◌, length, drop}
use Rattle.cite_http.specs.Messages.{Rest}
use Rattle.cite_http.specs.Waiting.{Searched}
use Rattle.cite_http.specs.RouterRows.{route_rows}
use Rattle.cite_http.specs.declared.reader.Reader.TheInside.{Inside}

-- the bytes from `start` on, and whether a closing message was given
abbrev pub rest_of : Inside → Rest
rest_of a = record { bytes = drop a.start a.bytes.items; closed = a.closed }

-- the rest was searched as far as is said, and the router is that of the table
pub record Holds (a : Inside) : Type 0 where
  pub within : a.start ≤ length a.bytes.items
  pub searched : Searched (drop a.start a.bytes.items) a.progress
  pub routes : a.router ≡ route_rows
