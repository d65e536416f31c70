-- How far a conversation has come. Clauses of private functions alone cite it.
use Rattle.std.specs.Prelude.{◌≡◌, ◌<◌, ⊤, ℕ, Bool, true, false, List, [], ◌∷◌, ◌++◌, Option, Some, None, length, take}
use Rattle.std.specs.List.{Contains}
use Rattle.std.specs.Io.KnownBytes.{Appends}
use Rattle.cite_ports.specs.Ports.{Rose}
use Rattle.cite_disk.specs.Device.{RoseBy}
use Rattle.entry_codec.specs.declared.entry.Entry.{Entry}
use Rattle.archive_model.specs.Archives.{Archive}
use Rattle.archive_state.specs.Standing.{StandsFor}
use Rattle.archive_core.specs.Keeping.{Held, Keeps}
use Rattle.cite_http.specs.Heads.{begun}
use Rattle.cite_http.specs.Messages.{Rest, Gives, whole}
use Rattle.cite_http.specs.Responses.{response_of}
use Rattle.cite_http.specs.declared.message.Message.{Message}
use Rattle.cite_conversation.specs.declared.end.LinkEnd.{LinkEnd}
use Rattle.cite_conversation.specs.declared.end.LinkEnd.TheVariants as ends
use Rattle.cite_conversation.specs.Streams.{Taken, Put}
use Rattle.cite_conversation.specs.Turns.{Turn, Talks, moments_in, responses_in, entries_in, failed_in, fails_after}
use Rattle.cite_conversation.specs.Conversations.{Begins, breaks}

-- what changes behind a conversation: a desk, what a crash of its disk may leave, how often the disk failed, and the
-- moments that the clock gave
pub record World : Type 1 where
  pub held : Held
  pub images : List ℕ → Type 0
  pub faults : ℕ
  pub given : Option (List ℕ)

-- the disk keeps the history under each entry; or the last turn that wrote to it failed, and it keeps the history under an
-- entry under which it failed
pub data IsCarried (w : World) (history failed : List Entry) (last : Bool) : Type 0 where
  Whole : ((d : Entry) → Keeps w.images w.held.journal history d) → IsCarried w history failed last
  Failing : last ≡ true → (d : Entry) → Contains failed d → Keeps w.images w.held.journal history d → IsCarried w history failed last

-- messages went so, from one world to another
pub record Moves (honest : Type 0) (old new : World) (a : Archive) (history : List Entry) (given : List Message) (turns : List Turn) : Type 0 where
  pub after : Archive
  pub talks : Talks a given turns after
  pub stands : StandsFor new.held.present (history ++ entries_in turns) after
  pub moments : Appends old.given new.given (moments_in turns)
  pub faults : RoseBy old.faults (length (failed_in turns)) new.faults
  pub disk : honest → (failed : List Entry) (last : Bool) → IsCarried old history failed last
      → IsCarried new (history ++ entries_in turns) (failed ++ failed_in turns) (fails_after last turns)

-- what a sink holds before and after, where it tells, and its counts of faults
pub record Sunk : Type 0 where
  pub written_before : Option (List ℕ)
  pub written_after : Option (List ℕ)
  pub faults_before : ℕ
  pub faults_after : ℕ

-- the last response was cut, as the sink failed
pub record CutsLast (sunk : Sunk) (turns : List Turn) (last : Turn) : Type 0 where
  pub count : ℕ
  pub proper : count < length (response_of last.reply)
  pub written : Put (responses_in turns ++ take count (response_of last.reply)) sunk.written_before sunk.written_after
  pub cause : Rose sunk.faults_before sunk.faults_after

-- one message was answered
pub record OneWent (honest : Type 0) (old new : World) (sunk : Sunk) (a : Archive) (history : List Entry) (m : Message) : Type 0 where
  pub turn : Turn
  pub moves : Moves honest old new a history (m ∷ []) (turn ∷ [])
  pub written : Put (responses_in (turn ∷ [])) sunk.written_before sunk.written_after

-- or its response was cut
pub record OneIsCut (honest : Type 0) (old new : World) (sunk : Sunk) (a : Archive) (history : List Entry) (m : Message) : Type 0 where
  pub turn : Turn
  pub moves : Moves honest old new a history (m ∷ []) (turn ∷ [])
  pub cut : CutsLast sunk [] turn

-- what an answer to one message comes to
abbrev pub OneEnds : (honest : Type 0) (old new : World) → Sunk → Archive → List Entry → Message → Option LinkEnd → Type 0
OneEnds honest old new sunk a history m None = OneWent honest old new sunk a history m
OneEnds honest old new sunk a history m (Some ends.WriteFault) = OneIsCut honest old new sunk a history m
OneEnds honest old new sunk a history m (Some ends.NoMemory) = ⊤
OneEnds honest old new sunk a history m (Some ends.Done) = ⊥
OneEnds honest old new sunk a history m (Some ends.Broken) = ⊥
OneEnds honest old new sunk a history m (Some ends.Cut) = ⊥
OneEnds honest old new sunk a history m (Some ends.TooLong) = ⊥
OneEnds honest old new sunk a history m (Some ends.ReadFault) = ⊥

-- a rest that gives what another gives, also with more bytes behind both
pub record Same (r s : Rest) : Type 0 where
  pub closed : r.closed ≡ s.closed
  pub bytes : (more : List ℕ) → begun (r.bytes ++ more) ≡ begun (s.bytes ++ more)

-- the messages are the first ones of the text, and the rest gives what comes behind them
pub record Reached (text : List ℕ) (given : List Message) (r : Rest) : Type 0 where
  pub behind : Rest
  pub first : Begins (whole text) given behind
  pub same : Same behind r

-- the reader gave these messages
abbrev pub Passes : (old new : Rest) → List Message → Type 0
Passes old new ms = (text : List ℕ) (given : List Message) → Reached text given old → Reached text (given ++ ms) new

-- messages of the reader were answered
pub record SomeWent (honest : Type 0) (old new : World) (sunk : Sunk) (r s : Rest) (a : Archive) (history : List Entry) : Type 0 where
  pub given : List Message
  pub turns : List Turn
  pub moves : Moves honest old new a history given turns
  pub written : Put (responses_in turns) sunk.written_before sunk.written_after
  pub passes : Passes r s given

-- the last of them closes
pub record LastCloses (honest : Type 0) (old new : World) (sunk : Sunk) (r s : Rest) (a : Archive) (history : List Entry) (broken : Bool) : Type 0 where
  pub given : List Message
  pub last : Message
  pub turns : List Turn
  pub moves : Moves honest old new a history (given ++ last ∷ []) turns
  pub written : Put (responses_in turns) sunk.written_before sunk.written_after
  pub passes : Passes r s (given ++ last ∷ [])
  pub closed : s.closed ≡ true
  pub broken_is : breaks last.ask ≡ broken

-- or the response to the last of them was cut
pub record SomeAreCut (honest : Type 0) (old new : World) (sunk : Sunk) (r s : Rest) (a : Archive) (history : List Entry) : Type 0 where
  pub given : List Message
  pub turns : List Turn
  pub last : Turn
  pub moves : Moves honest old new a history given (turns ++ last ∷ [])
  pub cut : CutsLast sunk turns last
  pub passes : Passes r s given

-- what the answers to the messages of a reader come to
abbrev pub SomeEnd : (honest : Type 0) (old new : World) → Sunk → (r s : Rest) → Archive → List Entry → Option LinkEnd → Type 0
SomeEnd honest old new sunk r s a history None = SomeWent honest old new sunk r s a history
SomeEnd honest old new sunk r s a history (Some ends.Done) = LastCloses honest old new sunk r s a history false
SomeEnd honest old new sunk r s a history (Some ends.Broken) = LastCloses honest old new sunk r s a history true
SomeEnd honest old new sunk r s a history (Some ends.WriteFault) = SomeAreCut honest old new sunk r s a history
SomeEnd honest old new sunk r s a history (Some ends.NoMemory) = ⊤
SomeEnd honest old new sunk r s a history (Some ends.Cut) = ⊥
SomeEnd honest old new sunk r s a history (Some ends.TooLong) = ⊥
SomeEnd honest old new sunk r s a history (Some ends.ReadFault) = ⊥

-- all messages of the reader were answered, and none closed
pub record Waits (s : Rest) : Type 0 where
  pub none : Gives s None s
  pub unclosed : s.closed ≡ false

-- how far the messages of a source went
pub record Sofar (honest : Type 0) (old new : World) (sunk : Sunk) (left_before left_after : Option (List ℕ)) (taken : ℕ) (r : Rest) (a : Archive) (history : List Entry) : Type 0 where
  pub text : List ℕ
  pub given : List Message
  pub turns : List Turn
  pub moves : Moves honest old new a history given turns
  pub written : Put (responses_in turns) sunk.written_before sunk.written_after
  pub reached : Reached text given r
  pub taken_is : Taken text left_before left_after
  pub size : length text ≡ taken
