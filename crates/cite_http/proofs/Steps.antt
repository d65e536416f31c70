-- One message after another: what a step gives stays so when bytes follow, and is the one thing that it can give.
use Rattle.std.proofs.Common.{◌≡◌, ◌≢◌, ℕ, ◌+◌, ◌<◌, ◌≤◌, ◌==◌, ◌||◌, List, [], ◌∷◌, ◌++◌, length, get_or, drop, take, Option, Some, None, Bool, true, false, if◌then◌else◌, length-drop, codes, refl, sym, ap, ◌∙◌, subst, arith, nat_lt, nat_le}
use Rattle.std.proofs.lemmas.List.{drop-append-le, append_assoc, append-nil, take_all, take_more}
use Rattle.std.proofs.lemmas.Grind.{flat_map-append}
use Rattle.std.proofs.lemmas.Bool.Decides.{nat_tests}
use Rattle.httparse.specs.Grammar.{RequestHead}
use Rattle.cite_http.specs.Heads.{begun, ends_empty, HeadEnd, NoEnd, EndAt}
use Rattle.cite_http.specs.Reading.{Found, Unfinished, Refused, Whole, Reads, ReadsCut, ReadsLines, ReadsHead, Good, Bad, with_length, after_head, has_many_lines, closes, fields_of}
use Rattle.cite_http.specs.Fields.{values_named, body_length}
use Rattle.cite_http.specs.declared.status.Status.TheVariants.{HeadTooLong, TransferCoding, BodyTooLong}
use Rattle.cite_http.specs.Messages.{message_of, size_of, Rest, Gives, Closed, Waits, Given, Messages, End, Then, fed, whole}
use Rattle.cite_http.specs.Pieces.{Stands, joined}
use Rattle.cite_http.specs.declared.message.Message.{Message}
use Rattle.cite_http.proofs.Stable.{reads_unique, reads_more}

begun_step : (t : Bool) (b : ℕ) (rest more : List ℕ) → (b == 10 || b == 13) ≡ t → begun (begun rest ++ more) ≡ begun (rest ++ more)
    → begun ((if t then begun rest else b ∷ rest) ++ more) ≡ (if t then begun (rest ++ more) else b ∷ (rest ++ more))
begun_step true b rest more e r = r
begun_step false b rest more e r = rw e refl

-- line ends in front are dropped, whatever follows
pub begun-append : (text more : List ℕ) → begun (begun text ++ more) ≡ begun (text ++ more)
begun-append [] more = refl
begun-append (b ∷ rest) more = begun_step (b == 10 || b == 13) b rest more refl (begun-append rest more)

some_step : (t : Bool) (b : ℕ) (rest more : List ℕ) → (begun rest ≢ [] → begun (rest ++ more) ≡ begun rest ++ more)
    → (if t then begun rest else b ∷ rest) ≢ [] → (if t then begun (rest ++ more) else b ∷ (rest ++ more)) ≡ (if t then begun rest else b ∷ rest) ++ more
some_step true b rest more r ne = r ne
some_step false b rest more r ne = refl

-- where a message is begun, more bytes stand behind it
pub begun_some : (text more : List ℕ) → begun text ≢ [] → begun (text ++ more) ≡ begun text ++ more
begun_some [] more ne = absurd (ne refl)
begun_some (b ∷ rest) more ne = some_step (b == 10 || b == 13) b rest more (begun_some rest more) ne

-- a message lies within its text
pick_within : (t : Bool) (f g : Found) (l : ℕ) → size_of f ≤ l → size_of g ≤ l → size_of (if t then f else g) ≤ l
pick_within true f g l x y = x
pick_within false f g l x y = y

whole_within : (t : Bool) (f : Found) (rest : List ℕ) (n k : ℕ) → nat_le k (length rest) ≡ t → size_of f ≡ n + k → size_of (if t then f else Unfinished) ≤ n + length rest
whole_within true f rest n k e s = let le : k ≤ length rest = grind (arith, nat_tests) in omega arith
whole_within false f rest n k e s = omega arith

length_within : (h : RequestHead) (rest : List ℕ) (n : ℕ) (o : Option ℕ) → size_of (with_length h rest n o) ≤ n + length rest
length_within h rest n None = omega arith
length_within h rest n (Some k) = pick_within (nat_lt 8388608 k) (Refused BodyTooLong n) _ _ (omega arith) (whole_within (nat_le k (length rest)) (Whole h.method h.target (closes h) (take k rest) (n + k)) rest n k refl refl)

after_within : (h : RequestHead) (rest : List ℕ) (n : ℕ) → size_of (after_head h rest n) ≤ n + length rest
after_within h rest n = pick_within (nat_lt 0 (length (values_named (codes "transfer-encoding") (fields_of h)))) (Refused TransferCoding n) _ _ (omega arith) (length_within h rest n (body_length (values_named (codes "content-length") (fields_of h))))

pub size_within : (text : List ℕ) (f : Found) → Reads text f → size_of f ≤ length text
size_within text f r = by_end r.end r.ends r.reads
  where
    by_room : (t : Bool) → nat_le 16384 (length text) ≡ t → f ≡ (if t then Refused HeadTooLong 16384 else Unfinished) → size_of f ≤ length text
    by_room true e y = let le : 16384 ≤ length text = grind (arith, nat_tests) in rw y le
    by_room false e y = rw y (omega arith)

    by_head : (n : ℕ) (f : Found) → n ≤ length text → ReadsHead text n f → size_of f ≤ length text
    by_head n f le (Bad x) = le
    by_head n f le (Good h x) = omega (arith, after_within h (drop n text) n, length-drop n text)

    by_lines : (n : ℕ) (t : Bool) → n ≤ length text → ReadsLines text n t f → size_of f ≤ length text
    by_lines n true le y = rw y le
    by_lines n false le y = by_head n f le y

    by_end : (o : Option ℕ) → HeadEnd text o → ReadsCut text o f → size_of f ≤ length text
    by_end o (NoEnd h) y = by_room (nat_le 16384 (length text)) refl y
    by_end o (EndAt n p s w h e) y = by_lines n (has_many_lines (take n text)) w y

-- nothing stands in an empty text
pub reads_nothing : Reads [] Unfinished
reads_nothing = record { end = None; ends = NoEnd none; reads = refl }
  where
    none : (k : ℕ) → k ≤ 16384 → ends_empty (take k []) ≡ false
    none k le = rw (take_all {A = ℕ} k [] (let z : length {A = ℕ} [] ≤ k = omega arith in z)) refl

pub found_begun : (text : List ℕ) (f : Found) → f ≢ Unfinished → Reads text f → text ≢ []
found_begun text f ne r e = let P : List ℕ → Type 0 = λ t. Reads t f in ne (reads_unique [] f Unfinished (subst P e r) reads_nothing)

message_found : (f : Found) (m : Message) → message_of f ≡ Some m → f ≢ Unfinished
message_found f m e u = let n : None ≡ Some m = ap message_of (sym u) ∙ e in absurd (cc)

-- what was given stays given when more bytes come
pub gives_more : (r s : Rest) (m : Message) (more : List ℕ) → Gives r (Some m) s → Gives (fed r more) (Some m) (fed s more)
gives_more r s k more (Given bytes f m reads e) =
    let ne = message_found f m e in
    let b : begun (bytes ++ more) ≡ begun bytes ++ more = begun_some bytes more (found_begun (begun bytes) f ne reads) in
    let d : drop (size_of f) (begun (bytes ++ more)) ≡ drop (size_of f) (begun bytes) ++ more = ap (drop (size_of f)) b ∙ drop-append-le (size_of f) (begun bytes) more (size_within (begun bytes) f reads) in
    let P : List ℕ → Type 0 = λ t. Reads t f in
    let Q : List ℕ → Type 0 = λ t. Gives (record { bytes = bytes ++ more; closed = false }) (Some m) (record { bytes = t; closed = m.closing }) in
    subst Q d (Given (bytes ++ more) f m (subst P (sym b) (reads_more (begun bytes) more f ne reads)) e)

-- one thing is given
pub gives_unique : (r s t : Rest) (o p : Option Message) → Gives r o s → Gives r p t → (o ≡ p) × (s ≡ t)
gives_unique r s t o p (Closed b) (Closed c) = (refl, refl)
gives_unique r s t o p (Waits b x) (Waits c y) = (refl, refl)
gives_unique r s t o p (Waits b x) (Given c g n y d) = absurd (message_found g n d (reads_unique (begun b) g Unfinished y x))
gives_unique r s t o p (Given b f m x e) (Waits c y) = absurd (message_found f m e (reads_unique (begun b) f Unfinished x y))
gives_unique r s t o p (Given b f m x e) (Given c g n y d) =
    let u : f ≡ g = reads_unique (begun b) f g x y in
    let v : Some m ≡ Some n = sym e ∙ ap message_of u ∙ d in
    let w : m ≡ n = cc in
    (v, cc)

-- a text has one list of messages
pub messages_unique : (r s t : Rest) (ms ns : List Message) → Messages r ms s → Messages r ns t → (ms ≡ ns) × (s ≡ t)
messages_unique r s t ms ns (End a b g) (End c d h) = (refl, (gives_unique a b d None None g h).1)
messages_unique r s t ms ns (End a b g) (Then c d e n ls h k) = let u : None ≡ Some n = (gives_unique a b d None (Some n) g h).0 in absurd (cc)
messages_unique r s t ms ns (Then c d e n ls h k) (End a b g) = let u : None ≡ Some n = (gives_unique a b d None (Some n) g h).0 in absurd (cc)
messages_unique r s t ms ns (Then a b c m ks g x) (Then d e f n ls h y) =
    let u = gives_unique a b e (Some m) (Some n) g h in
    let v : m ≡ n = let w : Some m ≡ Some n = u.0 in cc in
    let P : Rest → Type 0 = λ q. Messages q ls f in
    let z = messages_unique b c f ks ls x (subst P (sym u.1) y) in
    (let w : ks ≡ ls = z.0 in cc, z.1)

-- line ends in front change nothing that is given
begun_gives : (q s : Rest) (o : Option Message) → Gives q o s → q.closed ≡ false → (bytes : List ℕ) → begun q.bytes ≡ begun bytes → Gives (whole bytes) o s
begun_gives q s o (Closed b) c bytes e = absurd (cc)
begun_gives q s o (Waits b x) c bytes e =
    let P : List ℕ → Type 0 = λ t. Reads t Unfinished in
    let Q : List ℕ → Type 0 = λ t. Gives (whole bytes) None (whole t) in
    subst Q (sym e) (Waits bytes (subst P e x))
begun_gives q s o (Given b f n x y) c bytes e =
    let P : List ℕ → Type 0 = λ t. Reads t f in
    let Q : List ℕ → Type 0 = λ t. Gives (whole bytes) (Some n) (record { bytes = drop (size_of f) t; closed = n.closing }) in
    subst Q (sym e) (Given bytes f n (subst P e x) y)

begun_messages : (q t : Rest) (ms : List Message) → Messages q ms t → q.closed ≡ false → (bytes : List ℕ) → begun q.bytes ≡ begun bytes → Messages (whole bytes) ms t
begun_messages q t ms (End a b g) c bytes e = End (whole bytes) b (begun_gives a b None g c bytes e)
begun_messages q t ms (Then a b d m ks g x) c bytes e = Then (whole bytes) b d m ks (begun_gives a b (Some m) g c bytes e) x

waits_fed : (r s : Rest) (o : Option Message) → Gives r o s → o ≡ None → (more : List ℕ) (ms : List Message) (t : Rest) → Messages (fed s more) ms t → Messages (fed r more) ms t
waits_fed r s o (Closed b) e more ms t x = x
waits_fed r s o (Waits b w) e more ms t x = begun_messages (fed (whole (begun b)) more) t ms x refl (b ++ more) (begun-append b more)
waits_fed r s o (Given b f n w y) e more ms t x = absurd (cc)

-- the four steps of a reader
pub stands_start : Stands [] [] (whole [])
stands_start more ms t x = x

pub stands_fed : (bytes piece : List ℕ) (given : List Message) (r : Rest) → Stands bytes given r → Stands (bytes ++ piece) given (fed r piece)
stands_fed bytes piece given r s more ms t x =
    let P : List ℕ → Type 0 = λ b. Messages (record { bytes = b; closed = r.closed }) ms t in
    let Q : List ℕ → Type 0 = λ b. Messages (whole b) (given ++ ms) t in
    subst Q (sym (append_assoc bytes piece more)) (s (piece ++ more) ms t (subst P (append_assoc r.bytes piece more) x))

pub stands_given : (bytes : List ℕ) (given : List Message) (r s : Rest) (m : Message) → Stands bytes given r → Gives r (Some m) s → Stands bytes (given ++ m ∷ []) s
stands_given bytes given r s m st g more ms t x =
    let Q : List Message → Type 0 = λ l. Messages (whole (bytes ++ more)) l t in
    subst Q (sym (append_assoc given (m ∷ []) ms)) (st more (m ∷ ms) t (Then (fed r more) (fed s more) t m ms (gives_more r s m more g) x))

pub stands_waits : (bytes : List ℕ) (given : List Message) (r s : Rest) → Stands bytes given r → Gives r None s → Stands bytes given s
stands_waits bytes given r s st g more ms t x = st more ms t (waits_fed r s None g refl more ms t x)

-- what a reader stands for now: its messages, behind those that it gave, are those of all bytes that it was fed
pub stands_now : (bytes : List ℕ) (given ms : List Message) (r t : Rest) → Stands bytes given r → Messages r ms t → Messages (whole bytes) (given ++ ms) t
stands_now bytes given ms r t st x =
    let P : List ℕ → Type 0 = λ b. Messages (record { bytes = b; closed = r.closed }) ms t in
    let Q : List ℕ → Type 0 = λ b. Messages (whole b) (given ++ ms) t in
    subst Q (append-nil bytes) (st [] ms t (subst P (sym (append-nil r.bytes)) x))

-- where nothing is given, nothing is given again
none_again : (r s : Rest) (o : Option Message) → Gives r o s → o ≡ None → Gives s None s
none_again r s o (Closed b) e = Closed b
none_again r s o (Waits b x) e =
    let z : begun (begun b) ≡ begun b = ap begun (sym (append-nil (begun b))) ∙ begun-append b [] ∙ ap begun (append-nil b) in
    let P : List ℕ → Type 0 = λ t. Reads t Unfinished in
    let Q : List ℕ → Type 0 = λ t. Gives (whole (begun b)) None (whole t) in
    subst Q z (Waits (begun b) (subst P (sym z) x))
none_again r s o (Given b f n w y) e = absurd (cc)

pub none_stays : (r s : Rest) → Gives r None s → Gives s None s
none_stays r s g = none_again r s None g refl

pub nothing_given : Gives (whole []) None (whole [])
nothing_given = Waits [] reads_nothing

-- at the end of the pieces
pub all_given : (bytes : List ℕ) (given : List Message) (r : Rest) → Stands bytes given r → Gives r None r → Messages (whole bytes) given r
all_given bytes given r st g =
    let P : List Message → Type 0 = λ l. Messages (whole bytes) l r in
    subst P (append-nil given) (stands_now bytes given [] r r st (End r r g))

-- one piece further
pub joined_more : (pieces : List (List ℕ)) (i : ℕ) → i < length pieces → joined (take (i + 1) pieces) ≡ joined (take i pieces) ++ get_or pieces i []
joined_more pieces i h =
    let last : joined (get_or pieces i [] ∷ []) ≡ get_or pieces i [] = append-nil (get_or pieces i []) in
    ap joined (take_more pieces i [] h) ∙ flat_map-append (λ (piece : List ℕ). piece) (take i pieces) (get_or pieces i [] ∷ []) ∙ ap (λ t. joined (take i pieces) ++ t) last
