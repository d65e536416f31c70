-- What stands at the front of a text where a message begins (RFC 9112, as far as it is read here).
use Rattle.std.specs.Prelude.{◌≡◌, ℕ, ◌+◌, ◌≤◌, ◌==◌, ◌||◌, nat_lt, nat_le, List, [], length, take, drop, map, codes, Bool, true, false, Option, Some, None, if◌then◌else◌, count_by}
use Rattle.std.specs.List.{list_any}
use Rattle.httparse.specs.Grammar.{RequestHead, ReadsRequest}
use Rattle.httparse.specs.Spans.{name_and_value}
use Rattle.cite_http.specs.Heads.{HeadEnd}
use Rattle.cite_http.specs.Fields.{values_named, body_length, has_close}
use Rattle.cite_http.specs.declared.status.Status.{Status}
use Rattle.cite_http.specs.declared.status.Status.TheVariants.{BadHead, HeadTooLong, TransferCoding, BadLength, BodyTooLong}

-- no whole message yet; or one that is refused and closes; or one with method, target, whether it closes, and body.
-- The last number is how many bytes it has.
pub data Found : Type 0 where
  Unfinished : Found
  Refused : Status → ℕ → Found
  Whole : List ℕ → List ℕ → Bool → List ℕ → ℕ → Found

-- the bytes are exactly a request head, of at most 64 fields
pub record FitsHead (head : List ℕ) (h : RequestHead) : Type 0 where
  pub reads : ReadsRequest head h []
  pub room : length h.fields ≤ 64

-- the fields of a head, each with its value without spaces and tabs around it
abbrev pub fields_of : RequestHead → List (List ℕ × List ℕ)
fields_of h = map name_and_value h.fields

-- HTTP/1.0, or a field `Connection` with the word `close`
abbrev pub closes : RequestHead → Bool
closes h = h.minor == 0 || list_any has_close (values_named (codes "connection") (fields_of h))

-- a body of k bytes, in the rest behind a head of n bytes: too long, whole, or not yet whole
abbrev pub with_body : RequestHead → List ℕ → ℕ → ℕ → Found
with_body h rest n k =
    if nat_lt 8388608 k then Refused BodyTooLong n else
    if nat_le k (length rest) then Whole h.method h.target (closes h) (take k rest) (n + k) else Unfinished

-- the length of the body is known, or it is not
abbrev pub with_length : RequestHead → List ℕ → ℕ → Option ℕ → Found
with_length h rest n None = Refused BadLength n
with_length h rest n (Some k) = with_body h rest n k

-- what a head of n bytes makes of the rest behind it: a transfer coding is refused before the length is read
abbrev pub after_head : RequestHead → List ℕ → ℕ → Found
after_head h rest n =
    if nat_lt 0 (length (values_named (codes "transfer-encoding") (fields_of h))) then Refused TransferCoding n
    else with_length h rest n (body_length (values_named (codes "content-length") (fields_of h)))

-- the first n bytes are a request head, or they are none
pub data ReadsHead (text : List ℕ) (n : ℕ) : Found → Type 0 where
  Bad : ((h : RequestHead) → ¬ (FitsHead (take n text) h)) → ReadsHead text n (Refused BadHead n)
  Good : (h : RequestHead) → FitsHead (take n text) h → ReadsHead text n (after_head h (drop n text) n)

-- the head of n bytes has too many lines, or it has not
abbrev pub ReadsLines : List ℕ → ℕ → Bool → Found → Type 0
ReadsLines text n true f = f ≡ Refused HeadTooLong n
ReadsLines text n false f = ReadsHead text n f

-- a head may have 66 line feeds: one of the request line, 64 of fields, and one of the empty line
abbrev pub has_many_lines : List ℕ → Bool
has_many_lines head = nat_lt 66 (count_by (λ b. b == 10) head)

-- no head ends within 16,384 bytes, or a head of n bytes is there
abbrev pub ReadsCut : List ℕ → Option ℕ → Found → Type 0
ReadsCut text None f = f ≡ (if nat_le 16384 (length text) then Refused HeadTooLong 16384 else Unfinished)
ReadsCut text (Some n) f = ReadsLines text n (has_many_lines (take n text)) f

-- what stands at the front of a text, by where its head ends
pub record Reads (text : List ℕ) (f : Found) : Type 0 where
  pub end : Option ℕ
  pub ends : HeadEnd text end
  pub reads : ReadsCut text end f
