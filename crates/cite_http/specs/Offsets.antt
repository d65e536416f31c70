-- What the offsets of a message mean. Clauses of private functions alone cite it.
use Rattle.std.specs.Prelude.{◌≡◌, ℕ, List, take, map, slice_range}
use Rattle.httparse.specs.Grammar.{RequestHead}
use Rattle.httparse.specs.Spans.{span_bytes, header_bytes}
use Rattle.httparse.specs.declared.spans.HeaderSpan.{HeaderSpan}
use Rattle.httparse.specs.declared.spans.RequestSpans.{RequestSpans}
use Rattle.cite_http.specs.Reading.{Found as Meant, FitsHead, fields_of}
use Rattle.cite_http.specs.Reading as meant
use Rattle.cite_http.specs.declared.found.Found.{Found}
use Rattle.cite_http.specs.declared.found.Found.TheVariants.{Unfinished, Refused, Whole}

-- what was found, over the text in which it was found
abbrev pub meant_by : List ℕ → Found → Meant
meant_by text (Unfinished progress) = meant.Unfinished
meant_by text (Refused status size) = meant.Refused status size
meant_by text (Whole f) = meant.Whole (span_bytes text f.method) (span_bytes text f.target) f.closing (slice_range text f.body f.end) f.end

-- the spans cover the parts of a head that has room
pub record IsHeadAt (head : List ℕ) (fields : List HeaderSpan) (r : RequestSpans) (h : RequestHead) : Type 0 where
  pub fits : FitsHead head h
  pub method : span_bytes head r.method ≡ h.method
  pub target : span_bytes head r.path ≡ h.target
  pub version : r.version ≡ h.minor
  pub same_fields : map (header_bytes head) (take r.headers fields) ≡ fields_of h
