-- How far a text was searched for a message in vain, and that what was found lies within the text. Clauses of private
-- functions and the invariant of a reader alone cite it.
use Rattle.std.specs.Prelude.{◌≡◌, ◌⊎◌, ℕ, ◌+◌, ◌≤◌, ◌<◌, List, ◌++◌, length, ⊤, IsUtf8}
use Rattle.httparse.specs.Spans.{IsWithin, span_bytes}
use Rattle.cite_http.specs.Heads.{HasNoEnd}
use Rattle.cite_http.specs.Reading as meant
use Rattle.cite_http.specs.Reading.{Reads}
use Rattle.cite_http.specs.declared.found.Progress.{Progress}
use Rattle.cite_http.specs.declared.found.Frame.{Frame}
use Rattle.cite_http.specs.declared.found.Found.{Found}
use Rattle.cite_http.specs.declared.found.Found.TheVariants.{Unfinished, Refused, Whole}

-- no head ends within the bytes that were searched, and while fewer bytes than wanted are there no message is whole
pub record Searched (text : List ℕ) (progress : Progress) : Type 0 where
  pub within : progress.searched ≤ length text
  pub unended : HasNoEnd text progress.searched
  pub waiting : (more : List ℕ) → length text + length more < progress.wanted → Reads (text ++ more) meant.Unfinished

-- all of so many bytes was searched: the next search waits for more bytes than these, or begins behind them
abbrev pub IsFar : ℕ → Progress → Type 0
IsFar size progress = (size < progress.wanted) ⊎ (progress.searched ≡ size)

-- where no message is whole
abbrev pub OnUnfinished : Found → (Progress → Type 0) → Type 0
OnUnfinished (Unfinished progress) P = P progress
OnUnfinished (Refused status size) P = ⊤
OnUnfinished (Whole frame) P = ⊤

-- the parts of a message lie within the text, and its target is UTF-8
pub record IsFrame (text : List ℕ) (f : Frame) : Type 0 where
  pub method : IsWithin (length text) f.method
  pub target : IsWithin (length text) f.target
  pub target_text : IsUtf8 (span_bytes text f.target)
  pub some : 0 < f.end
  pub body : f.body ≤ f.end
  pub end : f.end ≤ length text

-- what was found has a byte at least, and lies within the text
abbrev pub LiesWithin : List ℕ → Found → Type 0
LiesWithin text (Unfinished progress) = ⊤
LiesWithin text (Refused status size) = (0 < size) × (size ≤ length text)
LiesWithin text (Whole frame) = IsFrame text frame
