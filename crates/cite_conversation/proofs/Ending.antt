-- Pieces of a source, one after another, and the ends of a conversation.
use Rattle.std.proofs.Common.{◌≡◌, ◌≢◌, ℕ, ◌+◌, ◌<◌, ◌≤◌, Bool, true, false, not, ◌&&◌, if◌then◌else◌, inl, inr, List, [], ◌∷◌, ◌++◌, Option, Some, None, length, length-append, length-take-le, take, append_assoc, refl, sym, ap, ◌∙◌, subst, arith, nat_lt}
use Rattle.std.specs.Io.KnownBytes.{Appends, Keeps as KeepsKnown}
use Rattle.std.proofs.lemmas.Bool.Decides.{nat_tests}
use Rattle.cite_ports.specs.Ports.{Gives, EndsExactly}
use Rattle.entry_codec.specs.declared.entry.Entry.{Entry}
use Rattle.archive_model.specs.Archives.{Archive}
use Rattle.archive_state.specs.Standing.{StandsFor}
use Rattle.archive_core.specs.Keeping.{Keeps}
use Rattle.cite_http.specs.Heads.{begun}
use Rattle.cite_http.specs.Messages.{Rest, fed, whole}
use Rattle.cite_http.specs.Responses.{response_of}
use Rattle.cite_http.specs.declared.message.Message.{Message}
use Rattle.cite_http.proofs.Giving.{gives_closed}
use Rattle.cite_conversation.specs.declared.end.LinkEnd.{LinkEnd}
use Rattle.cite_conversation.specs.declared.end.LinkEnd.TheVariants as ends
use Rattle.cite_conversation.specs.Streams.{Taken, AllTaken}
use Rattle.cite_conversation.specs.Turns.{Turn, responses_in, entries_in}
use Rattle.cite_conversation.specs.Conversations.{breaks, last_breaks, LastIsCut, IsClosed, IsAtEnd, IsStopped, IsEnded}
use Rattle.cite_conversation.specs.Steps.{World, Moves, Reached, SomeWent, LastCloses, SomeAreCut, SomeEnd, Waits, Sofar}
use Rattle.cite_conversation.proofs.Carrying.{appends_more, appends_nothing, responses_more, moves_nothing, moves_more}
use Rattle.cite_conversation.proofs.Reaching.{reached_start, reached_fed, AllGiven, all_given}
use Rattle.cite_conversation.proofs.Leaving.{around, went_so}
use Rattle.cite_conversation.proofs.Passing.{sunk_of, rose_later}
use Rattle.cite_conversation.proofs.Streaming.{taken_nothing, taken_more, taken_kept, all_taken}

-- nothing was taken yet
pub sofar_start : (honest : Type 0) (w : World) (written : Option (List ℕ)) (faults : ℕ) (left : Option (List ℕ)) (a : Archive) (history : List Entry) → StandsFor w.held.present history a
    → Sofar honest w w (sunk_of written written faults faults) left left 0 (whole []) a history
sofar_start honest w written faults left a history s = record {
  text = [];
  given = [];
  turns = [];
  moves = moves_nothing honest w a history s;
  written = appends_nothing written;
  reached = reached_start;
  taken_is = taken_nothing left;
  size = refl;
}

-- a piece more was taken, and its messages went
pub sofar_more : (honest : Type 0) (v w x : World) (k l n : Option (List ℕ)) (e f g : ℕ) (left middle after : Option (List ℕ)) (taken total : ℕ) (r s : Rest) (a : Archive) (history : List Entry) (piece : List ℕ)
    → (p : Sofar honest v w (sunk_of k l e f) left middle taken r a history) → Taken piece middle after → taken + length piece ≡ total
    → SomeWent honest w x (sunk_of l n f g) (fed r piece) s p.moves.after (history ++ entries_in p.turns)
    → Sofar honest v x (sunk_of k n e g) left after total s a history
sofar_more honest v w x k l n e f g left middle after taken total r s a history piece p t sum q = record {
  text = p.text ++ piece;
  given = p.given ++ q.given;
  turns = p.turns ++ q.turns;
  moves = moves_more honest v w x a history p.given q.given p.turns q.turns p.moves q.moves;
  written = subst (Appends k n) (responses_more p.turns q.turns) (appends_more k l n (responses_in p.turns) (responses_in q.turns) p.written q.written);
  reached = q.passes (p.text ++ piece) p.given (reached_fed p.text piece p.given r p.reached);
  taken_is = taken_more left middle after p.text piece p.taken_is t;
  size = length-append p.text piece ∙ ap (λ z. z + length piece) p.size ∙ sum;
}

-- how the last message breaks
last_of : (ms : List Message) (m : Message) → last_breaks (ms ++ m ∷ []) ≡ breaks m.ask
last_of [] m = refl
last_of (x ∷ []) m = refl
last_of (x ∷ y ∷ ms) m = last_of (y ∷ ms) m

-- a closing message was answered
pub ends_closed : (honest : Type 0) (v w x : World) (k l n : Option (List ℕ)) (e f g : ℕ) (left middle after : Option (List ℕ)) (rb ra : ℕ) (taken : ℕ) (r s : Rest) (a : Archive) (history : List Entry) (piece : List ℕ) (broken : Bool)
    → (honest → (d : Entry) → Keeps v.images v.held.journal history d)
    → (p : Sofar honest v w (sunk_of k l e f) left middle taken r a history) → Taken piece middle after
    → LastCloses honest w x (sunk_of l n f g) (fed r piece) s p.moves.after (history ++ entries_in p.turns) broken
    → IsClosed a history (around honest v x left after rb ra k n e g) broken
ends_closed honest v w x k l n e f g left middle after rb ra taken r s a history piece broken kept p t q =
    let given : List Message = p.given ++ (q.given ++ q.last ∷ []) in
    let all : AllGiven (p.text ++ piece) given s =
    all_given (p.text ++ piece) given s s (q.passes (p.text ++ piece) p.given (reached_fed p.text piece p.given r p.reached)) (gives_closed s q.closed) in
    record {
      text = p.text ++ piece;
      given = given;
      rest = all.rest;
      taken = taken_more left middle after p.text piece p.taken_is t;
      answered = record {
        messages = all.messages;
        turns = p.turns ++ q.turns;
        went = went_so honest v x left after rb ra k n e g a history given (p.turns ++ q.turns) kept (moves_more honest v w x a history p.given (q.given ++ q.last ∷ []) p.turns q.turns p.moves q.moves);
        written = subst (Appends k n) (responses_more p.turns q.turns) (appends_more k l n (responses_in p.turns) (responses_in q.turns) p.written q.written);
      };
      closed = all.closed ∙ q.closed;
      broken_is = ap last_breaks (sym (append_assoc p.given q.given (q.last ∷ []))) ∙ last_of (p.given ++ q.given) q.last ∙ q.broken_is;
    }

-- a response was cut
pub ends_cut : (honest : Type 0) (v w x : World) (k l n : Option (List ℕ)) (e f g : ℕ) (left middle after : Option (List ℕ)) (rb ra : ℕ) (taken : ℕ) (r s : Rest) (a : Archive) (history : List Entry) (piece : List ℕ)
    → (honest → (d : Entry) → Keeps v.images v.held.journal history d)
    → (p : Sofar honest v w (sunk_of k l e f) left middle taken r a history) → Taken piece middle after → e ≤ f
    → SomeAreCut honest w x (sunk_of l n f g) (fed r piece) s p.moves.after (history ++ entries_in p.turns)
    → IsEnded a history (around honest v x left after rb ra k n e g) ends.WriteFault
ends_cut honest v w x k l n e f g left middle after rb ra taken r s a history piece kept p t le q =
    let reached : Reached (p.text ++ piece) (p.given ++ q.given) s = q.passes (p.text ++ piece) p.given (reached_fed p.text piece p.given r p.reached) in
    let cut : LastIsCut a history (around honest v x left after rb ra k n e g) (p.text ++ piece) = record {
      given = p.given ++ q.given;
      rest = reached.behind;
      first = reached.first;
      turns = p.turns ++ q.turns;
      last = q.last;
      went = went_so honest v x left after rb ra k n e g a history (p.given ++ q.given) ((p.turns ++ q.turns) ++ q.last ∷ []) kept
          (subst (λ (ts : List Turn). Moves honest v x a history (p.given ++ q.given) ts) (sym (append_assoc p.turns q.turns (q.last ∷ [])))
          (moves_more honest v w x a history p.given q.given p.turns (q.turns ++ q.last ∷ []) p.moves q.moves));
      count = q.cut.count;
      proper = q.cut.proper;
      written = subst (Appends k n) (sym (append_assoc (responses_in p.turns) (responses_in q.turns) (take q.cut.count (response_of q.last.reply)))
          ∙ ap (λ z. z ++ take q.cut.count (response_of q.last.reply)) (responses_more p.turns q.turns))
          (appends_more k l n (responses_in p.turns) (responses_in q.turns ++ take q.cut.count (response_of q.last.reply)) p.written q.cut.written);
    } in
    ((p.text ++ piece, taken_more left middle after p.text piece p.taken_is t, cut), rose_later e f g le q.cut.cause)

-- an end with a message
pub ends_so : (honest : Type 0) (v w x : World) (k l n : Option (List ℕ)) (e f g : ℕ) (left middle after : Option (List ℕ)) (rb ra : ℕ) (taken : ℕ) (r s : Rest) (a : Archive) (history : List Entry) (piece : List ℕ) (end : LinkEnd)
    → (honest → (d : Entry) → Keeps v.images v.held.journal history d)
    → (p : Sofar honest v w (sunk_of k l e f) left middle taken r a history) → Taken piece middle after → e ≤ f
    → SomeEnd honest w x (sunk_of l n f g) (fed r piece) s p.moves.after (history ++ entries_in p.turns) (Some end)
    → IsEnded a history (around honest v x left after rb ra k n e g) end
ends_so honest v w x k l n e f g left middle after rb ra taken r s a history piece ends.Done kept p t le q =
    inl (ends_closed honest v w x k l n e f g left middle after rb ra taken r s a history piece false kept p t q)
ends_so honest v w x k l n e f g left middle after rb ra taken r s a history piece ends.Broken kept p t le q =
    ends_closed honest v w x k l n e f g left middle after rb ra taken r s a history piece true kept p t q
ends_so honest v w x k l n e f g left middle after rb ra taken r s a history piece ends.WriteFault kept p t le q =
    ends_cut honest v w x k l n e f g left middle after rb ra taken r s a history piece kept p t le q
ends_so honest v w x k l n e f g left middle after rb ra taken r s a history piece ends.NoMemory kept p t le q = tt
ends_so honest v w x k l n e f g left middle after rb ra taken r s a history piece ends.Cut kept p t le q = absurd q
ends_so honest v w x k l n e f g left middle after rb ra taken r s a history piece ends.TooLong kept p t le q = absurd q
ends_so honest v w x k l n e f g left middle after rb ra taken r s a history piece ends.ReadFault kept p t le q = absurd q

-- no more is taken
pub stops : (honest : Type 0) (v w : World) (k l : Option (List ℕ)) (e f : ℕ) (left middle after : Option (List ℕ)) (rb ra : ℕ) (taken : ℕ) (r : Rest) (a : Archive) (history : List Entry) (Size : ℕ → Type 0)
    → (honest → (d : Entry) → Keeps v.images v.held.journal history d)
    → Sofar honest v w (sunk_of k l e f) left middle taken r a history → Waits r → KeepsKnown middle after → Size taken
    → IsStopped a history (around honest v w left after rb ra k l e f) Size
stops honest v w k l e f left middle after rb ra taken r a history Size kept p waits same size =
    let given : AllGiven p.text p.given r = all_given p.text p.given r r p.reached waits.none in
    record {
      text = p.text;
      given = p.given;
      rest = given.rest;
      taken = taken_kept left middle after p.text p.taken_is same;
      size = subst Size (sym p.size) size;
      answered = record {
        messages = given.messages;
        turns = p.turns;
        went = went_so honest v w left after rb ra k l e f a history p.given p.turns kept p.moves;
        written = p.written;
      };
      unclosed = given.closed ∙ waits.unclosed;
    }

-- the input is at its end
at_end : (honest : Type 0) (v w : World) (k l : Option (List ℕ)) (e f : ℕ) (left middle after : Option (List ℕ)) (rb ra : ℕ) (taken : ℕ) (r : Rest) (a : Archive) (history : List Entry) (Left : List ℕ → Type 0)
    → (honest → (d : Entry) → Keeps v.images v.held.journal history d)
    → (p : Sofar honest v w (sunk_of k l e f) left middle taken r a history) → Waits r → AllTaken p.text left after → taken < 4294967296 → Left (begun r.bytes)
    → IsAtEnd a history (around honest v w left after rb ra k l e f) Left
at_end honest v w k l e f left middle after rb ra taken r a history Left kept p waits all few is =
    let given : AllGiven p.text p.given r = all_given p.text p.given r r p.reached waits.none in
    record {
      text = p.text;
      given = p.given;
      rest = given.rest;
      taken = all;
      few = subst (λ z. z < 4294967296) (sym p.size) few;
      answered = record {
        messages = given.messages;
        turns = p.turns;
        went = went_so honest v w left after rb ra k l e f a history p.given p.turns kept p.moves;
        written = p.written;
      };
      unclosed = given.closed ∙ waits.unclosed;
      left = subst Left (sym given.bytes) is;
    }

no_length : (xs : List ℕ) → nat_lt 0 (length xs) ≡ false → xs ≡ []
no_length [] e = refl
no_length (x ∷ xs) e = let z : length (x ∷ xs) ≤ 0 = grind (arith, nat_tests) in absurd (omega arith)

some_length : (xs : List ℕ) → nat_lt 0 (length xs) ≡ true → xs ≢ []
some_length [] e z = absurd (cc)
some_length (x ∷ xs) e z = absurd (cc)

pub ends_at_end : (honest : Type 0) (v w : World) (k l : Option (List ℕ)) (e f : ℕ) (left middle after : Option (List ℕ)) (rb ra : ℕ) (taken : ℕ) (r : Rest) (a : Archive) (history : List Entry)
    → (honest → (d : Entry) → Keeps v.images v.held.journal history d)
    → (p : Sofar honest v w (sunk_of k l e f) left middle taken r a history) → Waits r → AllTaken p.text left after → taken < 4294967296
    → (inside : Bool) → nat_lt 0 (length (begun r.bytes)) ≡ inside
    → IsEnded a history (around honest v w left after rb ra k l e f) (if inside then ends.Cut else ends.Done)
ends_at_end honest v w k l e f left middle after rb ra taken r a history kept p waits all few true is =
    at_end honest v w k l e f left middle after rb ra taken r a history (λ x. x ≢ []) kept p waits all few (some_length (begun r.bytes) is)
ends_at_end honest v w k l e f left middle after rb ra taken r a history kept p waits all few false is =
    inr (at_end honest v w k l e f left middle after rb ra taken r a history (λ x. x ≡ []) kept p waits all few (no_length (begun r.bytes) is))

pub inside_is : (closed : Bool) (bytes : List ℕ) → closed ≡ false → (not closed && nat_lt 0 (length (begun bytes))) ≡ nat_lt 0 (length (begun bytes))
inside_is true bytes e = absurd (cc)
inside_is false bytes e = refl

-- where no byte came
pub ends_inside : (honest : Type 0) (v w : World) (k l : Option (List ℕ)) (e f : ℕ) (left middle after : Option (List ℕ)) (rb ra : ℕ) (taken : ℕ) (r : Rest) (a : Archive) (history : List Entry) (into : List ℕ) (n : ℕ) (end : LinkEnd)
    → (honest → (d : Entry) → Keeps v.images v.held.journal history d)
    → Sofar honest v w (sunk_of k l e f) left middle taken r a history → Waits r → Gives n into middle after → EndsExactly n middle → n ≡ 0 → taken < 4294967296
    → end ≡ (if not r.closed && nat_lt 0 (length (begun r.bytes)) then ends.Cut else ends.Done)
    → IsEnded a history (around honest v w left after rb ra k l e f) end
ends_inside honest v w k l e f left middle after rb ra taken r a history into n end kept p waits gives exact zero few is =
    subst (λ (z : LinkEnd). IsEnded a history (around honest v w left after rb ra k l e f) z)
    (sym (is ∙ ap (λ (b : Bool). if b then ends.Cut else ends.Done) (inside_is r.closed r.bytes waits.unclosed)))
    (ends_at_end honest v w k l e f left middle after rb ra taken r a history kept p waits (all_taken left middle after p.text into n p.taken_is gives exact zero) few (nat_lt 0 (length (begun r.bytes))) refl)

-- a piece more, with which the conversation ends
pub ends_piece : (honest : Type 0) (v w x : World) (k l n : Option (List ℕ)) (e f g : ℕ) (left middle after : Option (List ℕ)) (rb ra : ℕ) (taken : ℕ) (r t s : Rest) (a : Archive) (history : List Entry) (piece : List ℕ) (end : LinkEnd)
    → (honest → (d : Entry) → Keeps v.images v.held.journal history d)
    → (p : Sofar honest v w (sunk_of k l e f) left middle taken r a history) → Taken piece middle after → e ≤ f → t ≡ fed r piece
    → SomeEnd honest w x (sunk_of l n f g) t s p.moves.after (history ++ entries_in p.turns) (Some end)
    → IsEnded a history (around honest v x left after rb ra k n e g) end
ends_piece honest v w x k l n e f g left middle after rb ra taken r t s a history piece end kept p taken_is le is q =
    ends_so honest v w x k l n e f g left middle after rb ra taken r s a history piece end kept p taken_is le
    (subst (λ (z : Rest). SomeEnd honest w x (sunk_of l n f g) z s p.moves.after (history ++ entries_in p.turns) (Some end)) is q)

-- and one with which it goes on
pub goes_piece : (honest : Type 0) (v w x : World) (k l n : Option (List ℕ)) (e f g : ℕ) (left middle after : Option (List ℕ)) (taken count : ℕ) (r t s : Rest) (a : Archive) (history : List Entry) (into : List ℕ)
    → (p : Sofar honest v w (sunk_of k l e f) left middle taken r a history) → Gives count into middle after → count ≤ length into → t ≡ fed r (take count into)
    → (o : Option LinkEnd) → o ≡ None → SomeEnd honest w x (sunk_of l n f g) t s p.moves.after (history ++ entries_in p.turns) o
    → Sofar honest v x (sunk_of k n e g) left after (taken + count) s a history
goes_piece honest v w x k l n e f g left middle after taken count r t s a history into p gives room is o none q =
    let few : length (take count into) ≡ count = length-take-le count into room in
    let went : SomeEnd honest w x (sunk_of l n f g) t s p.moves.after (history ++ entries_in p.turns) None =
    subst (λ (z : Option LinkEnd). SomeEnd honest w x (sunk_of l n f g) t s p.moves.after (history ++ entries_in p.turns) z) none q in
    sofar_more honest v w x k l n e f g left middle after taken (taken + count) r s a history (take count into) p gives (ap (λ z. taken + z) few)
    (subst (λ (z : Rest). SomeWent honest w x (sunk_of l n f g) z s p.moves.after (history ++ entries_in p.turns)) is went)
