-- Messages of a reader, one after another.
use Rattle.std.proofs.Common.{◌≡◌, ℕ, ◌<◌, ◌≤◌, Bool, true, false, if◌then◌else◌, List, [], ◌∷◌, ◌++◌, Option, Some, None, length, take, append-nil, refl, sym, ap, ◌∙◌, subst, arith}
use Rattle.std.specs.Io.KnownBytes.{Appends}
use Rattle.cite_ports.specs.Ports.{Holds, Rose}
use Rattle.entry_codec.specs.declared.entry.Entry.{Entry}
use Rattle.archive_model.specs.Archives.{Archive}
use Rattle.archive_state.specs.Standing.{StandsFor}
use Rattle.cite_http.specs.Messages.{Rest, Gives, Closed, Waits, Given}
use Rattle.cite_http.specs.Responses.{response_of}
use Rattle.cite_http.specs.declared.message.Message.{Message}
use Rattle.cite_http.specs.declared.reply.Reply.{Reply}
use Rattle.cite_conversation.specs.Streams.{PutsFront}
use Rattle.cite_conversation.specs.Conversations.{breaks}
use Rattle.cite_conversation.specs.Turns.{Turn, responses_in, entries_in}
use Rattle.cite_conversation.specs.declared.end.LinkEnd.{LinkEnd}
use Rattle.cite_conversation.specs.declared.end.LinkEnd.TheVariants as ends
use Rattle.cite_conversation.specs.Steps.{World, Sunk, OneWent, OneIsCut, OneEnds, Passes, SomeWent, LastCloses, SomeAreCut, SomeEnd}
use Rattle.cite_conversation.proofs.Carrying.{appends_more, appends_nothing, responses_more, moves_nothing, moves_more}
use Rattle.cite_conversation.proofs.Faring.{Turned}
use Rattle.cite_conversation.proofs.Reaching.{passes_one, passes_none, passes_nothing, passes_more}

-- what a sink holds before and after
abbrev pub sunk_of : (before after : Option (List ℕ)) (faults_before faults_after : ℕ) → Sunk
sunk_of before after faults_before faults_after = record { written_before = before; written_after = after; faults_before = faults_before; faults_after = faults_after }

-- whether a closing message was given
gives_closing : (r s : Rest) (o : Option Message) (m : Message) → Gives r o s → o ≡ Some m → s.closed ≡ m.closing
gives_closing r s o m (Closed b) e = absurd (cc)
gives_closing r s o m (Waits b x) e = absurd (cc)
gives_closing r s o m (Given b f n x y) e = let k : n ≡ m = cc in ap (λ (w : Message). w.closing) k

pub given_closing : (r s : Rest) (m : Message) → Gives r (Some m) s → s.closed ≡ m.closing
given_closing r s m g = gives_closing r s (Some m) m g refl

waits_unclosed : (r s : Rest) (o : Option Message) → Gives r o s → o ≡ None → s.closed ≡ r.closed
waits_unclosed r s o (Closed b) e = refl
waits_unclosed r s o (Waits b x) e = refl
waits_unclosed r s o (Given b f n x y) e = absurd (cc)

pub none_closing : (r s : Rest) → Gives r None s → s.closed ≡ r.closed
none_closing r s g = waits_unclosed r s None g refl

pub rose_later : (a b c : ℕ) → a ≤ b → Rose b c → Rose a c
rose_later a b c le r = omega arith

-- none yet
pub some_nothing : (honest : Type 0) (w : World) (written : Option (List ℕ)) (faults : ℕ) (r : Rest) (a : Archive) (history : List Entry) → StandsFor w.held.present history a
    → SomeWent honest w w (sunk_of written written faults faults) r r a history
some_nothing honest w written faults r a history s = record { given = []; turns = []; moves = moves_nothing honest w a history s; written = appends_nothing written; passes = passes_nothing r }

-- nothing more is given
pub some_waits : (honest : Type 0) (v w : World) (sunk : Sunk) (r s t : Rest) (a : Archive) (history : List Entry) → SomeWent honest v w sunk r s a history → Gives s None t → SomeWent honest v w sunk r t a history
some_waits honest v w sunk r s t a history p g = record {
  given = p.given;
  turns = p.turns;
  moves = p.moves;
  written = p.written;
  passes = subst (Passes r t) (append-nil p.given) (passes_more r s t p.given [] p.passes (passes_none s t g));
}

written_more : (k l n : Option (List ℕ)) (ts us : List Turn) → Appends k l (responses_in ts) → Appends l n (responses_in us) → Appends k n (responses_in (ts ++ us))
written_more k l n ts us p q = subst (Appends k n) (responses_more ts us) (appends_more k l n (responses_in ts) (responses_in us) p q)

-- one more went
pub some_more : (honest : Type 0) (v w x : World) (k l n : Option (List ℕ)) (e f g : ℕ) (r s t : Rest) (a : Archive) (history : List Entry) (m : Message)
    → (p : SomeWent honest v w (sunk_of k l e f) r s a history) → Gives s (Some m) t → OneWent honest w x (sunk_of l n f g) p.moves.after (history ++ entries_in p.turns) m
    → SomeWent honest v x (sunk_of k n e g) r t a history
some_more honest v w x k l n e f g r s t a history m p gives q = record {
  given = p.given ++ m ∷ [];
  turns = p.turns ++ q.turn ∷ [];
  moves = moves_more honest v w x a history p.given (m ∷ []) p.turns (q.turn ∷ []) p.moves q.moves;
  written = written_more k l n p.turns (q.turn ∷ []) p.written q.written;
  passes = passes_more r s t p.given (m ∷ []) p.passes (passes_one s t m gives);
}

-- one more went, and closes
pub some_closes : (honest : Type 0) (v w x : World) (k l n : Option (List ℕ)) (e f g : ℕ) (r s t : Rest) (a : Archive) (history : List Entry) (m : Message)
    → (p : SomeWent honest v w (sunk_of k l e f) r s a history) → Gives s (Some m) t → OneWent honest w x (sunk_of l n f g) p.moves.after (history ++ entries_in p.turns) m → m.closing ≡ true
    → (broken : Bool) → breaks m.ask ≡ broken → LastCloses honest v x (sunk_of k n e g) r t a history broken
some_closes honest v w x k l n e f g r s t a history m p gives q c broken b = record {
  given = p.given;
  last = m;
  turns = p.turns ++ q.turn ∷ [];
  moves = moves_more honest v w x a history p.given (m ∷ []) p.turns (q.turn ∷ []) p.moves q.moves;
  written = written_more k l n p.turns (q.turn ∷ []) p.written q.written;
  passes = passes_more r s t p.given (m ∷ []) p.passes (passes_one s t m gives);
  closed = given_closing s t m gives ∙ c;
  broken_is = b;
}

-- one more went, and its response was cut
pub some_cut : (honest : Type 0) (v w x : World) (k l n : Option (List ℕ)) (e f g : ℕ) (r s t : Rest) (a : Archive) (history : List Entry) (m : Message)
    → (p : SomeWent honest v w (sunk_of k l e f) r s a history) → Gives s (Some m) t → e ≤ f → OneIsCut honest w x (sunk_of l n f g) p.moves.after (history ++ entries_in p.turns) m
    → SomeAreCut honest v x (sunk_of k n e g) r t a history
some_cut honest v w x k l n e f g r s t a history m p gives le q = record {
  given = p.given ++ m ∷ [];
  turns = p.turns;
  last = q.turn;
  moves = moves_more honest v w x a history p.given (m ∷ []) p.turns (q.turn ∷ []) p.moves q.moves;
  cut = record {
    count = q.cut.count;
    proper = q.cut.proper;
    written = appends_more k l n (responses_in p.turns) (take q.cut.count (response_of q.turn.reply)) p.written q.cut.written;
    cause = rose_later e f g le q.cut.cause;
  };
  passes = passes_more r s t p.given (m ∷ []) p.passes (passes_one s t m gives);
}

-- the response to a message was put
pub one_went : (honest : Type 0) (v w : World) (k l : Option (List ℕ)) (e f : ℕ) (a : Archive) (history : List Entry) (m : Message) (reply r : Reply) (text : List ℕ)
    → Turned honest v w a history m reply → r ≡ reply → text ≡ response_of r → Holds text k l → OneWent honest v w (sunk_of k l e f) a history m
one_went honest v w k l e f a history m reply r text t same is put = record {
  turn = t.turn;
  moves = t.moves;
  written = subst (Appends k l) (is ∙ ap response_of (same ∙ sym t.reply_is) ∙ sym (append-nil (response_of t.turn.reply))) put;
}

-- a part of it was put
pub one_cut : (honest : Type 0) (v w : World) (k l : Option (List ℕ)) (e f : ℕ) (a : Archive) (history : List Entry) (m : Message) (reply r : Reply) (text : List ℕ)
    → Turned honest v w a history m reply → r ≡ reply → text ≡ response_of r → PutsFront text k l → Rose e f → OneIsCut honest v w (sunk_of k l e f) a history m
one_cut honest v w k l e f a history m reply r text t same is part rose =
    let response : text ≡ response_of t.turn.reply = is ∙ ap response_of (same ∙ sym t.reply_is) in
    record {
      turn = t.turn;
      moves = t.moves;
      cut = record {
        count = part.0;
        proper = subst (λ (bytes : List ℕ). part.0 < length bytes) response part.1;
        written = subst (λ (bytes : List ℕ). Appends k l (take part.0 bytes)) response part.2;
        cause = rose;
      };
    }

-- an answer that ends, ends so
pub one_ends : (honest : Type 0) (v w x : World) (k l n : Option (List ℕ)) (e f g : ℕ) (r s t : Rest) (a : Archive) (history : List Entry) (m : Message)
    → (p : SomeWent honest v w (sunk_of k l e f) r s a history) → Gives s (Some m) t → e ≤ f → (o : Option LinkEnd) (end : LinkEnd) → o ≡ Some end
    → OneEnds honest w x (sunk_of l n f g) p.moves.after (history ++ entries_in p.turns) m o → SomeEnd honest v x (sunk_of k n e g) r t a history (Some end)
one_ends honest v w x k l n e f g r s t a history m p gives le None end is q = absurd (cc)
one_ends honest v w x k l n e f g r s t a history m p gives le (Some ends.WriteFault) end is q =
    let same : ends.WriteFault ≡ end = cc in
    subst (λ (z : LinkEnd). SomeEnd honest v x (sunk_of k n e g) r t a history (Some z)) same (some_cut honest v w x k l n e f g r s t a history m p gives le q)
one_ends honest v w x k l n e f g r s t a history m p gives le (Some ends.NoMemory) end is q =
    let same : ends.NoMemory ≡ end = cc in
    subst (λ (z : LinkEnd). SomeEnd honest v x (sunk_of k n e g) r t a history (Some z)) same tt
one_ends honest v w x k l n e f g r s t a history m p gives le (Some ends.Done) end is q = absurd q
one_ends honest v w x k l n e f g r s t a history m p gives le (Some ends.Broken) end is q = absurd q
one_ends honest v w x k l n e f g r s t a history m p gives le (Some ends.Cut) end is q = absurd q
one_ends honest v w x k l n e f g r s t a history m p gives le (Some ends.TooLong) end is q = absurd q
one_ends honest v w x k l n e f g r s t a history m p gives le (Some ends.ReadFault) end is q = absurd q

-- how a conversation ends with a message, where it closes
abbrev pub closing_end : (closing broken : Bool) → Option LinkEnd
closing_end closing broken = if closing then Some (if broken then ends.Broken else ends.Done) else None

closes_by : (honest : Type 0) (v x : World) (sunk : Sunk) (r t : Rest) (a : Archive) (history : List Entry) (closing broken : Bool) (end : LinkEnd)
    → closing_end closing broken ≡ Some end → (closing ≡ true → LastCloses honest v x sunk r t a history broken) → SomeEnd honest v x sunk r t a history (Some end)
closes_by honest v x sunk r t a history true true end is k =
    let same : ends.Broken ≡ end = cc in
    subst (λ (z : LinkEnd). SomeEnd honest v x sunk r t a history (Some z)) same (k refl)
closes_by honest v x sunk r t a history true false end is k =
    let same : ends.Done ≡ end = cc in
    subst (λ (z : LinkEnd). SomeEnd honest v x sunk r t a history (Some z)) same (k refl)
closes_by honest v x sunk r t a history false broken end is k = absurd (cc)

-- a message that closes, ends so
pub one_closes : (honest : Type 0) (v w x : World) (k l n : Option (List ℕ)) (e f g : ℕ) (r s t : Rest) (a : Archive) (history : List Entry) (m : Message)
    → (p : SomeWent honest v w (sunk_of k l e f) r s a history) → Gives s (Some m) t → (o : Option LinkEnd) → o ≡ None
    → OneEnds honest w x (sunk_of l n f g) p.moves.after (history ++ entries_in p.turns) m o → (end : LinkEnd) → closing_end m.closing (breaks m.ask) ≡ Some end
    → SomeEnd honest v x (sunk_of k n e g) r t a history (Some end)
one_closes honest v w x k l n e f g r s t a history m p gives o none q end is =
    let went : OneWent honest w x (sunk_of l n f g) p.moves.after (history ++ entries_in p.turns) m =
    subst (λ (z : Option LinkEnd). OneEnds honest w x (sunk_of l n f g) p.moves.after (history ++ entries_in p.turns) m z) none q in
    closes_by honest v x (sunk_of k n e g) r t a history m.closing (breaks m.ask) end is
    (λ c. some_closes honest v w x k l n e f g r s t a history m p gives went c (breaks m.ask) refl)

-- a message that doesn't, goes
pub one_goes : (honest : Type 0) (v w x : World) (k l n : Option (List ℕ)) (e f g : ℕ) (r s t : Rest) (a : Archive) (history : List Entry) (m : Message)
    → (p : SomeWent honest v w (sunk_of k l e f) r s a history) → Gives s (Some m) t → (o : Option LinkEnd) → o ≡ None
    → OneEnds honest w x (sunk_of l n f g) p.moves.after (history ++ entries_in p.turns) m o → SomeWent honest v x (sunk_of k n e g) r t a history
one_goes honest v w x k l n e f g r s t a history m p gives o none q =
    some_more honest v w x k l n e f g r s t a history m p gives
    (subst (λ (z : Option LinkEnd). OneEnds honest w x (sunk_of l n f g) p.moves.after (history ++ entries_in p.turns) m z) none q)

unclosed_by : (closing broken : Bool) → closing_end closing broken ≡ None → closing ≡ false
unclosed_by true broken e = absurd (cc)
unclosed_by false broken e = refl

pub stays_unclosed : (s t : Rest) (m : Message) → Gives s (Some m) t → closing_end m.closing (breaks m.ask) ≡ None → t.closed ≡ false
stays_unclosed s t m g e = given_closing s t m g ∙ unclosed_by m.closing (breaks m.ask) e
