-- The JSON value that a body is read as.
use Rattle.std.proofs.Common.{◌≡◌, ℕ, List, Bool, true, false, Some, None, if◌then◌else◌, IsUtf8, refl, sym}
use Rattle.std.specs.Str.{is_utf8}
use Rattle.std.proofs.lemmas.Str.{IsUtf8-from_is_utf8, is_utf8-from_IsUtf8}
use Rattle.serde_json.specs.Data.{Data}
use Rattle.serde_json.specs.Read.{read}
use Rattle.query_json.specs.Requests.{json_of}

-- a text that is read
pub json_of-read : (body : List ℕ) (d : Data) → IsUtf8 body → read body ≡ Some d → Some d ≡ json_of body
unfolding json_of
json_of-read body d utf8 r = rw (is_utf8-from_IsUtf8 body utf8) (sym r)

unread : (body : List ℕ) (b : Bool) → is_utf8 body ≡ b → (IsUtf8 body → read body ≡ None) → None ≡ (if b then read body else None)
unread body true e h = sym (h (IsUtf8-from_is_utf8 body e))
unread body false e h = refl

-- a body that is no UTF-8, or a text that is not read
pub json_of-unread : (body : List ℕ) → (IsUtf8 body → read body ≡ None) → None ≡ json_of body
unfolding json_of
json_of-unread body h = unread body (is_utf8 body) refl h
