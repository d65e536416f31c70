-- The bytes of a response.
use Rattle.std.specs.Prelude.{◌≡◌, ℕ, ◌==◌, ◌||◌, List, [], ◌∷◌, ◌++◌, length, codes, decimal, Bool, false, if◌then◌else◌, IsTrue}
use Rattle.std.specs.List.{list_any}
use Rattle.cite_http.specs.declared.reply.Media.{Media}
use Rattle.cite_http.specs.declared.reply.Media.TheVariants.{Json, Html, Csv, Plain}
use Rattle.cite_http.specs.declared.reply.Reply.{Reply}

-- the codes of responses
abbrev pub is_code : ℕ → Bool
is_code code =
    list_any (λ c. code == c) (200 ∷ 201 ∷ 400 ∷ 404 ∷ 405 ∷ 409 ∷ 413 ∷ 422 ∷ 431 ∷ 501 ∷ 503 ∷ 507 ∷ [])

-- the reason phrase of a code (RFC 9110; 431 of RFC 6585, 507 of RFC 4918)
abbrev pub phrase_of : ℕ → List ℕ
phrase_of code =
    if code == 200 then codes "OK" else
    if code == 201 then codes "Created" else
    if code == 400 then codes "Bad Request" else
    if code == 404 then codes "Not Found" else
    if code == 405 then codes "Method Not Allowed" else
    if code == 409 then codes "Conflict" else
    if code == 413 then codes "Content Too Large" else
    if code == 422 then codes "Unprocessable Content" else
    if code == 431 then codes "Request Header Fields Too Large" else
    if code == 501 then codes "Not Implemented" else
    if code == 503 then codes "Service Unavailable" else codes "Insufficient Storage"

-- the media type of a body
abbrev pub type_of : Media → List ℕ
type_of Json = codes "application/json"
type_of Html = codes "text/html; charset=utf-8"
type_of Csv = codes "text/csv"
type_of Plain = codes "text/plain"

-- the line that tells the method of a path: 1 stands for GET, 2 for POST
abbrev pub allow_of : ℕ → List ℕ
allow_of allow = if allow == 1 then codes "Allow: GET\r\n" else if allow == 2 then codes "Allow: POST\r\n" else []

-- the line that tells that nothing more is read
abbrev pub close_of : Bool → List ℕ
close_of closing = if closing then codes "Connection: close\r\n" else []

-- the status line, the fields and the empty line
abbrev pub head_of : ℕ → Media → ℕ → ℕ → Bool → List ℕ
head_of code kind allow size closing =
    codes "HTTP/1.1 " ++ decimal code ++ codes " " ++ phrase_of code
    ++ codes "\r\nContent-Type: " ++ type_of kind ++ codes "\r\n" ++ allow_of allow
    ++ codes "Content-Length: " ++ decimal size ++ codes "\r\n" ++ close_of closing ++ codes "\r\n"

-- the bytes of a response: the head, and the body
abbrev pub response_of : Reply → List ℕ
response_of r = head_of r.code r.kind r.allow (length r.body) r.closing ++ r.body

-- a reply has one of the codes, and tells a method exactly where its code is 405
pub record IsReply (r : Reply) : Type 0 where
  pub code : IsTrue (is_code r.code)
  pub allow : (r.code == 405) ≡ (r.allow == 1 || r.allow == 2)
  pub none : (r.code == 405) ≡ false → r.allow ≡ 0

-- the response where memory is wanting: 507 with `NoMemory`
unfoldable pub memory_reply_of : Bool → List ℕ
memory_reply_of closing = response_of (record { code = 507; kind = Plain; body = codes "NoMemory\n"; allow = 0; closing = closing })
