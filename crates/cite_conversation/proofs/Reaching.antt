-- The first messages of a text, of which a reader is given pieces.
use Rattle.std.proofs.Common.{◌≡◌, ℕ, List, [], ◌∷◌, ◌++◌, drop, Option, Some, None, Bool, true, false, append_assoc, append-nil, refl, sym, ap, ◌∙◌, subst}
use Rattle.cite_http.specs.Heads.{begun}
use Rattle.cite_http.specs.Reading.{Unfinished, Reads}
use Rattle.cite_http.specs.Messages.{size_of, Rest, Gives, Closed, Waits, Given, Messages, End, Then, fed, whole}
use Rattle.cite_http.specs.declared.message.Message.{Message}
use Rattle.cite_http.proofs.Steps.{begun-append, gives_more, gives_unique}
use Rattle.cite_conversation.specs.Conversations.{Begins, Start, Step}
use Rattle.cite_conversation.specs.Steps.{Same, Reached, Passes}

begins_fed : (r s : Rest) (ms : List Message) (more : List ℕ) → Begins r ms s → Begins (fed r more) ms (fed s more)
begins_fed r s ms more (Start a) = Start (fed a more)
begins_fed r s ms more (Step a b d m ks g x) = Step (fed a more) (fed b more) (fed d more) m ks (gives_more a b m more g) (begins_fed b d ks more x)

begins_more : (r s t : Rest) (ms : List Message) (m : Message) → Begins r ms s → Gives s (Some m) t → Begins r (ms ++ m ∷ []) t
begins_more r s t ms m (Start a) g = Step a t t m [] g (Start t)
begins_more r s t ms m (Step a b d n ks h x) g = Step a b t n (ks ++ m ∷ []) h (begins_more b d t ks m x g)

begins_all : (r s t : Rest) (ms : List Message) → Begins r ms s → Gives s None t → Messages r ms t
begins_all r s t ms (Start a) g = End a t g
begins_all r s t ms (Step a b d m ks h x) g = Then a b t m ks h (begins_all b d t ks x g)

-- what comes first comes first in each list of all messages
pub begins_first : (r s t : Rest) (ms ns : List Message) → Begins r ms s → Messages r ns t → (ks : List Message) × (ns ≡ ms ++ ks) × Messages s ks t
begins_first r s t ms ns (Start a) x = (ns, refl, x)
begins_first r s t ms ns (Step a b d m ks g y) (End e f h) = let u : Some m ≡ None = (gives_unique a b f (Some m) None g h).0 in absurd (cc)
begins_first r s t ms ns (Step a b d m ks g y) (Then e f i n ls h x) =
    let u = gives_unique a b f (Some m) (Some n) g h in
    let v : m ≡ n = let w : Some m ≡ Some n = u.0 in cc in
    let z = begins_first b d i ks ls y (subst (λ (q : Rest). Messages q ls i) (sym u.1) x) in
    (z.0, (ap (λ (k : Message). k ∷ ls) (sym v) ∙ ap (λ l. m ∷ l) z.1), z.2)

-- the same front
front : (r s : Rest) → Same r s → begun r.bytes ≡ begun s.bytes
front r s e = ap begun (sym (append-nil r.bytes)) ∙ e.bytes [] ∙ ap begun (append-nil s.bytes)

-- what gives the same, gives it
gives_same : (q s : Rest) (o : Option Message) (m : Message) → Gives q o s → o ≡ Some m → (r : Rest) → Same r q → Gives r (Some m) s
gives_same q s o m (Closed b) e r same = absurd (cc)
gives_same q s o m (Waits b x) e r same = absurd (cc)
gives_same q s o m (Given b f n x y) e r same =
    let f1 : begun r.bytes ≡ begun b = front r (whole b) same in
    let k : n ≡ m = cc in
    let unclosed : false ≡ r.closed = sym same.closed in
    let g : Gives (whole r.bytes) (Some n) (record { bytes = drop (size_of f) (begun r.bytes); closed = n.closing }) = Given r.bytes f n (subst (λ (t : List ℕ). Reads t f) (sym f1) x) y in
    subst (λ (p : Message). Gives r (Some p) (record { bytes = drop (size_of f) (begun b); closed = n.closing })) k
    (subst (λ (c : Bool). Gives (record { bytes = r.bytes; closed = c }) (Some n) (record { bytes = drop (size_of f) (begun b); closed = n.closing })) unclosed
    (subst (λ (t : List ℕ). Gives (whole r.bytes) (Some n) (record { bytes = drop (size_of f) t; closed = n.closing })) f1 g))

-- where nothing is given, what is left gives the same
waits_same : (r s : Rest) (o : Option Message) → Gives r o s → o ≡ None → Same r s
waits_same r s o (Closed b) e = record { closed = refl; bytes = λ more. refl }
waits_same r s o (Waits b x) e = record { closed = refl; bytes = λ more. sym (begun-append b more) }
waits_same r s o (Given b f n w y) e = absurd (cc)

begun_again : (b : List ℕ) → begun (begun b) ≡ begun b
begun_again b = ap begun (sym (append-nil (begun b))) ∙ begun-append b [] ∙ ap begun (append-nil b)

same_waits : (q s : Rest) (o : Option Message) → Gives q o s → o ≡ None → (r : Rest) → Same r q → (t : Rest) × Gives r None t × (t.closed ≡ q.closed) × (begun t.bytes ≡ begun q.bytes)
same_waits q s o (Closed b) e r same =
    (r, subst (λ (c : Bool). Gives (record { bytes = r.bytes; closed = c }) None (record { bytes = r.bytes; closed = c })) (sym same.closed) (Closed r.bytes), same.closed, front r (record { bytes = b; closed = true }) same)
same_waits q s o (Waits b x) e r same =
    let f : begun r.bytes ≡ begun b = front r (whole b) same in
    let left : Rest = record { bytes = begun r.bytes; closed = r.closed } in
    (left, subst (λ (c : Bool). Gives (record { bytes = r.bytes; closed = c }) None (record { bytes = begun r.bytes; closed = c })) (sym same.closed) (Waits r.bytes (subst (λ (t : List ℕ). Reads t Unfinished) (sym f) x)), same.closed, begun_again r.bytes ∙ f)
same_waits q s o (Given b f n w y) e r same = absurd (cc)

-- nothing was fed
pub reached_start : Reached [] [] (whole [])
reached_start = record { behind = whole []; first = Start (whole []); same = record { closed = refl; bytes = λ more. refl } }

-- a piece more was fed
pub reached_fed : (text piece : List ℕ) (given : List Message) (r : Rest) → Reached text given r → Reached (text ++ piece) given (fed r piece)
reached_fed text piece given r h = record {
  behind = fed h.behind piece;
  first = begins_fed (whole text) h.behind given piece h.first;
  same = record {
    closed = h.same.closed;
    bytes = λ more. ap begun (append_assoc h.behind.bytes piece more) ∙ h.same.bytes (piece ++ more) ∙ ap begun (sym (append_assoc r.bytes piece more));
  };
}

-- a message more was given
pub passes_one : (r s : Rest) (m : Message) → Gives r (Some m) s → Passes r s (m ∷ [])
passes_one r s m g text given h = record {
  behind = s;
  first = begins_more (whole text) h.behind s given m h.first (gives_same r s (Some m) m g refl h.behind h.same);
  same = record { closed = refl; bytes = λ more. refl };
}

-- nothing was given
pub passes_none : (r s : Rest) → Gives r None s → Passes r s []
passes_none r s g text given h =
    let w : Same r s = waits_same r s None g refl in
    subst (λ (l : List Message). Reached text l s) (sym (append-nil given))
    (record { behind = h.behind; first = h.first; same = record { closed = h.same.closed ∙ w.closed; bytes = λ more. h.same.bytes more ∙ w.bytes more } })

pub passes_nothing : (r : Rest) → Passes r r []
passes_nothing r text given h = subst (λ (l : List Message). Reached text l r) (sym (append-nil given)) h

pub passes_more : (r s t : Rest) (ms ns : List Message) → Passes r s ms → Passes s t ns → Passes r t (ms ++ ns)
passes_more r s t ms ns p q text given h =
    subst (λ (l : List Message). Reached text l t) (append_assoc given ms ns) (q text (given ++ ms) (p text given h))

-- all messages were given
pub record AllGiven (text : List ℕ) (given : List Message) (r : Rest) : Type 0 where
  pub rest : Rest
  pub messages : Messages (whole text) given rest
  pub closed : rest.closed ≡ r.closed
  pub bytes : begun rest.bytes ≡ begun r.bytes

pub all_given : (text : List ℕ) (given : List Message) (r s : Rest) → Reached text given r → Gives r None s → AllGiven text given r
all_given text given r s h g =
    let w = same_waits r s None g refl h.behind h.same in
    record { rest = w.0; messages = begins_all (whole text) h.behind w.0 given h.first w.1; closed = w.2; bytes = w.3 }
