-- What a reader gives may be asked for.
use Rattle.std.proofs.Common.{◌≡◌, ℕ, ◌+◌, ◌*◌, ◌<◌, ◌≤◌, ◌==◌, ◌&&◌, List, [], ◌∷◌, length, drop, take, Option, Some, None, Bool, true, false, not, if◌then◌else◌, length-take, refl, sym, subst, arith, nat_lt, nat_le, bytes_eq}
use Rattle.std.proofs.lemmas.Bool.Decides.{nat_tests}
use Rattle.std.proofs.lemmas.Str.Parse.{digits_value-take-le}
use Rattle.std.specs.List.{list_all}
use Rattle.std.specs.Char.{is_ascii_digit, digit_value}
use Rattle.std.specs.Str.Parse.{digits_value}
use Rattle.batches.specs.Curators.{is_curator}
use Rattle.httparse.specs.Grammar.{RequestHead}
use Rattle.cite_http.specs.Heads.{begun}
use Rattle.cite_http.specs.Fields.{values_named, body_length}
use Rattle.std.specs.Prelude.{codes}
use Rattle.cite_http.specs.Reading.{Found, Unfinished, Refused, Whole, Reads, ReadsCut, ReadsLines, ReadsHead, Good, Bad, after_head, with_length, fields_of, has_many_lines, closes}
use Rattle.cite_http.specs.Routes.{path_of, begins_with_slash, segments, route_of, is_read, method_of}
use Rattle.cite_http.specs.Asks.{segment_at, begins_without_zero, is_count, count_of, migrate_of, batch_of, ask_at, routed, asked}
use Rattle.cite_http.specs.Messages.{message_of, Rest, Gives, Closed, Waits, Given}
use Rattle.cite_http.specs.declared.ask.Ask.{Ask}
use Rattle.cite_http.specs.declared.ask.Ask.TheVariants as asks
use Rattle.cite_http.specs.declared.message.Message.{Message}
use Rattle.cite_http.specs.declared.route.Route.{Route}
use Rattle.cite_http.specs.declared.route.Route.TheVariants as routes
use Rattle.cite_http.specs.declared.status.Status.TheVariants.{HeadTooLong, TransferCoding, BodyTooLong, BadTarget, OtherMethod}
use Rattle.cite_answer.specs.Messages.{IsAskable}

-- the body that was found
abbrev body_of : Found → List ℕ
body_of Unfinished = []
body_of (Refused status size) = []
body_of (Whole method target closing body size) = body

-- it is short enough
abbrev IsShort : Found → Type 0
IsShort f = length (body_of f) ≤ 8388608

pick_short : (t : Bool) (f g : Found) → IsShort f → IsShort g → IsShort (if t then f else g)
pick_short true f g x y = x
pick_short false f g x y = y

body_short : (h : RequestHead) (rest : List ℕ) (n k : ℕ) (long : Bool) → nat_lt 8388608 k ≡ long
    → IsShort (if long then Refused BodyTooLong n else (if nat_le k (length rest) then Whole h.method h.target (closes h) (take k rest) (n + k) else Unfinished))
body_short h rest n k true e = omega arith
body_short h rest n k false e =
    let le : k ≤ 8388608 = grind (arith, nat_tests) in
    let short : length (take k rest) ≤ 8388608 = omega (arith, length-take k rest) in
    pick_short (nat_le k (length rest)) (Whole h.method h.target (closes h) (take k rest) (n + k)) Unfinished short (omega arith)

length_short : (h : RequestHead) (rest : List ℕ) (n : ℕ) (o : Option ℕ) → IsShort (with_length h rest n o)
length_short h rest n None = omega arith
length_short h rest n (Some k) = body_short h rest n k (nat_lt 8388608 k) refl

after_short : (h : RequestHead) (rest : List ℕ) (n : ℕ) → IsShort (after_head h rest n)
after_short h rest n =
    pick_short (nat_lt 0 (length (values_named (codes "transfer-encoding") (fields_of h)))) (Refused TransferCoding n) _ (omega arith)
    (length_short h rest n (body_length (values_named (codes "content-length") (fields_of h))))

found_short : (text : List ℕ) (f : Found) → Reads text f → IsShort f
found_short text f r = by_end r.end r.reads
  where
    by_head : (n : ℕ) (f : Found) → ReadsHead text n f → IsShort f
    by_head n f (Bad x) = omega arith
    by_head n f (Good h x) = after_short h (drop n text) n

    by_lines : (n : ℕ) (t : Bool) → ReadsLines text n t f → IsShort f
    by_lines n true y = subst IsShort (sym y) (let z : 0 ≤ 8388608 = omega arith in z)
    by_lines n false y = by_head n f y

    by_end : (o : Option ℕ) → ReadsCut text o f → IsShort f
    by_end None y = subst IsShort (sym y) (pick_short (nat_le 16384 (length text)) (Refused HeadTooLong 16384) Unfinished (omega arith) (omega arith))
    by_end (Some n) y = by_lines n (has_many_lines (take n text)) y

-- a count is 1 at least, and below 2^32
and_left : (a b : Bool) → (a && b) ≡ true → a ≡ true
and_left true b e = refl
and_left false b e = e

and_right : (a b : Bool) → (a && b) ≡ true → b ≡ true
and_right true b e = e
and_right false b e = absurd (cc)

digit_some : (b : ℕ) → is_ascii_digit b ≡ true → not (b == 48) ≡ true → 1 ≤ digit_value b
digit_some b d z = grind (arith, nat_tests)

value_some : (s : List ℕ) → begins_without_zero s ≡ true → list_all is_ascii_digit s ≡ true → 1 ≤ digits_value 10 s
value_some [] z d = absurd (cc)
value_some (b ∷ rest) z d =
    let first : 1 ≤ digit_value b = digit_some b (and_left (is_ascii_digit b) (list_all is_ascii_digit rest) d) z in
    let le : digits_value 10 (take 1 (b ∷ rest)) ≤ digits_value 10 (b ∷ rest) = digits_value-take-le 10 (b ∷ rest) 1 (omega arith) in
    let one : digits_value 10 (take 1 (b ∷ rest)) ≡ 0 * 10 + digit_value b = refl in
    omega arith

pub record IsNumber (n : ℕ) : Type 0 where
  least : 1 ≤ n
  most : n < 4294967296

count_number : (s : List ℕ) (t : Bool) → is_count s ≡ t → (n : ℕ) → (if t then Some (digits_value 10 s) else None) ≡ Some n → IsNumber n
count_number s false e n h = absurd (cc)
count_number s true e n h =
    let n_is : digits_value 10 s ≡ n = cc in
    let z = and_left (begins_without_zero s) (nat_le (length s) 10) (and_left (begins_without_zero s && nat_le (length s) 10) (list_all is_ascii_digit s) (and_left (begins_without_zero s && nat_le (length s) 10 && list_all is_ascii_digit s) (nat_lt (digits_value 10 s) 4294967296) e)) in
    let d = and_right (begins_without_zero s && nat_le (length s) 10) (list_all is_ascii_digit s) (and_left (begins_without_zero s && nat_le (length s) 10 && list_all is_ascii_digit s) (nat_lt (digits_value 10 s) 4294967296) e) in
    let l : nat_lt (digits_value 10 s) 4294967296 ≡ true = and_right (begins_without_zero s && nat_le (length s) 10 && list_all is_ascii_digit s) (nat_lt (digits_value 10 s) 4294967296) e in
    let some : 1 ≤ digits_value 10 s = value_some s z d in
    let few : digits_value 10 s < 4294967296 = grind (arith, nat_tests) in
    record { least = omega arith; most = omega arith }

-- by what the segments are read as
pick_askable : (t : Bool) (x y : Ask) → (t ≡ true → IsAskable x) → IsAskable y → IsAskable (if t then x else y)
pick_askable true x y p q = p refl
pick_askable false x y p q = q

batch_askable : (schema : Option ℕ) (curator : List ℕ) (number : Option ℕ) (body : List ℕ) → ((n : ℕ) → number ≡ Some n → IsNumber n) → length body ≤ 8388608 → IsAskable (batch_of schema curator number body)
batch_askable None curator number body k short = tt
batch_askable (Some schema) curator None body k short = tt
batch_askable (Some schema) curator (Some number) body k short =
    let is : IsNumber number = k number refl in
    pick_askable (is_curator curator) (asks.Batch (record { schema = schema; curator = curator; number = number; body = body })) (asks.Bad BadTarget)
    (λ t. record { curator = t; least = is.least; most = omega (arith, is.most); body = short }) tt

migrate_askable : (schema : Option ℕ) (body : List ℕ) → IsAskable (migrate_of schema body)
migrate_askable None body = tt
migrate_askable (Some schema) body = tt

route_askable : (route : Route) (ss : List (List ℕ)) (body : List ℕ) → length body ≤ 8388608 → IsAskable (ask_at route ss body)
route_askable routes.State ss body short = tt
route_askable routes.Page ss body short = tt
route_askable routes.Bytes ss body short = tt
route_askable routes.Metadata ss body short = tt
route_askable routes.Batch ss body short =
    batch_askable (count_of (segment_at ss 1)) (segment_at ss 2) (count_of (segment_at ss 3)) body (count_number (segment_at ss 3) (is_count (segment_at ss 3)) refl) short
route_askable routes.Cite ss body short = tt
route_askable routes.Migrate ss body short = migrate_askable (count_of (segment_at ss 1)) body

routed_askable : (o : Option Route) (method : List ℕ) (ss : List (List ℕ)) (body : List ℕ) → length body ≤ 8388608 → IsAskable (routed o method ss body)
routed_askable None method ss body short = tt
routed_askable (Some route) method ss body short =
    pick_askable (bytes_eq method (method_of (is_read route))) (ask_at route ss body) (asks.Bad (OtherMethod (is_read route))) (λ t. route_askable route ss body short) tt

target_askable : (method target body : List ℕ) → length body ≤ 8388608 → IsAskable (asked method target body)
unfolding asked
target_askable method target body short =
    pick_askable (begins_with_slash (path_of target)) (routed (route_of (segments (path_of target))) method (segments (path_of target)) body) (asks.Bad BadTarget)
    (λ t. routed_askable (route_of (segments (path_of target))) method (segments (path_of target)) body short) tt

message_askable : (f : Found) (m : Message) → IsShort f → message_of f ≡ Some m → IsAskable m.ask
message_askable Unfinished m short e = absurd (cc)
message_askable (Refused status size) m short e =
    let is : record { ask = asks.Bad status; closing = true } ≡ m = cc in
    subst (λ (k : Message). IsAskable k.ask) is tt
message_askable (Whole method target closing body size) m short e =
    let is : record { ask = asked method target body; closing = closing } ≡ m = cc in
    subst (λ (k : Message). IsAskable k.ask) is (target_askable method target body short)

given_askable : (r s : Rest) (o : Option Message) → Gives r o s → (m : Message) → o ≡ Some m → IsAskable m.ask
given_askable r s o (Closed b) m e = absurd (cc)
given_askable r s o (Waits b x) m e = absurd (cc)
given_askable r s o (Given b f n x y) m e =
    let is : n ≡ m = cc in
    subst (λ (k : Message). IsAskable k.ask) is (message_askable f n (found_short (begun b) f x) y)

-- a message that a reader gives
pub gives_askable : (r s : Rest) (m : Message) → Gives r (Some m) s → IsAskable m.ask
gives_askable r s m g = given_askable r s (Some m) g m refl
