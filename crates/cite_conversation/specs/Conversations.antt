-- What a conversation over a source and a sink comes to, by its end.
use Rattle.std.specs.Prelude.{◌≡◌, ◌≢◌, ◌<◌, ◌⊎◌, ◌++◌, ⊤, ℕ, Bool, true, false, List, [], ◌∷◌, Option, Some, length, take}
use Rattle.std.specs.List.{Contains}
use Rattle.std.specs.Io.KnownBytes.{Appends}
use Rattle.cite_ports.specs.Ports.{Rose}
use Rattle.cite_disk.specs.Device.{RoseBy}
use Rattle.archive_journal.specs.Records.{Shut, Gated}
use Rattle.entry_codec.specs.declared.entry.Entry.{Entry}
use Rattle.entry_codec.specs.Payloads.{payload}
use Rattle.archive_model.specs.Archives.{Archive}
use Rattle.archive_model.specs.Histories.{LeadsTo}
use Rattle.archive_core.specs.Keeping.{MayFollow, payloads_of}
use Rattle.cite_http.specs.Heads.{begun}
use Rattle.cite_http.specs.Messages.{Rest, Gives, Messages, whole}
use Rattle.cite_http.specs.Responses.{response_of}
use Rattle.cite_http.specs.declared.ask.Ask.{Ask}
use Rattle.cite_http.specs.declared.ask.Ask.TheVariants as asks
use Rattle.cite_http.specs.declared.message.Message.{Message}
use Rattle.cite_http.specs.declared.status.Status.TheVariants as statuses
use Rattle.cite_conversation.specs.declared.end.LinkEnd.{LinkEnd}
use Rattle.cite_conversation.specs.declared.end.LinkEnd.TheVariants as ends
use Rattle.cite_conversation.specs.Streams.{Taken, AllTaken, Put}
use Rattle.cite_conversation.specs.Turns.{Turn, Talks, moments_in, responses_in, entries_in, failed_in, fails_last}

-- the streams, the clock and the disk before a conversation and after it: their content where they tell it, and the counts of faults
pub record Around : Type 1 where
  pub left_before : Option (List ℕ)
  pub left_after : Option (List ℕ)
  pub reads_before : ℕ
  pub reads_after : ℕ
  pub written_before : Option (List ℕ)
  pub written_after : Option (List ℕ)
  pub writes_before : ℕ
  pub writes_after : ℕ
  pub given_before : Option (List ℕ)
  pub given_after : Option (List ℕ)
  pub honest : Type 0
  pub images : List ℕ → Type 0
  pub faults_before : ℕ
  pub faults_after : ℕ

-- the disk stands for the history; where the last turn that wrote to it failed, maybe for the history and an entry under which it failed
pub record IsLeft (images : List ℕ → Type 0) (history : List Entry) (turns : List Turn) : Type 0 where
  pub shut : fails_last turns ≡ false → (b : List ℕ) → images b → Shut (payloads_of history) b
  pub each : (b : List ℕ) → images b → Shut (payloads_of history) b
      ⊎ ((d : Entry) × Contains (failed_in turns) d × MayFollow history d × Gated (payloads_of history) (payload d) b)

-- the messages went so: the moments are those of the clock, the disk failed as often as was told at least, and it stands for what was done
pub record Went (a : Archive) (history : List Entry) (given : List Message) (turns : List Turn) (seen : Around) : Type 0 where
  pub after : Archive
  pub talks : Talks a given turns after
  pub moments : Appends seen.given_before seen.given_after (moments_in turns)
  pub faults : RoseBy seen.faults_before (length (failed_in turns)) seen.faults_after
  pub leads : LeadsTo (history ++ entries_in turns) after
  pub left : seen.honest → IsLeft seen.images (history ++ entries_in turns) turns

-- these are the first messages of a rest, and this is left behind them. They are the first ones of all its messages, as
-- each step gives one thing
pub data Begins : Rest → List Message → Rest → Type 0 where
  Start : (r : Rest) → Begins r [] r
  Step : (r s t : Rest) (m : Message) (ms : List Message) → Gives r (Some m) s → Begins s ms t → Begins r (m ∷ ms) t

-- what comes first so comes first in each list of all messages of a rest, and what is left has the others
abbrev pub ComeFirst : Type 0
ComeFirst = (r s t : Rest) (ms ns : List Message) → Begins r ms s → Messages r ns t → (more : List Message) × (ns ≡ ms ++ more) × Messages s more t

-- all messages of the text were answered, and their responses are written
pub record AllAnswered (a : Archive) (history : List Entry) (seen : Around) (text : List ℕ) (given : List Message) (rest : Rest) : Type 0 where
  pub messages : Messages (whole text) given rest
  pub turns : List Turn
  pub went : Went a history given turns seen
  pub written : Put (responses_in turns) seen.written_before seen.written_after

-- the first messages of the text were answered, and the response to the last of them is cut
pub record LastIsCut (a : Archive) (history : List Entry) (seen : Around) (text : List ℕ) : Type 0 where
  pub given : List Message
  pub rest : Rest
  pub first : Begins (whole text) given rest
  pub turns : List Turn
  pub last : Turn
  pub went : Went a history given (turns ++ last ∷ []) seen
  pub count : ℕ
  pub proper : count < length (response_of last.reply)
  pub written : Put (responses_in turns ++ take count (response_of last.reply)) seen.written_before seen.written_after

-- the message can't be told from what follows it, so nothing is read behind it
abbrev pub breaks : Ask → Bool
breaks (asks.Bad statuses.BadHead) = true
breaks (asks.Bad statuses.HeadTooLong) = true
breaks (asks.Bad statuses.TransferCoding) = true
breaks (asks.Bad statuses.BadLength) = true
breaks (asks.Bad statuses.BodyTooLong) = true
breaks (asks.Bad statuses.BadTarget) = false
breaks (asks.Bad statuses.NoRoute) = false
breaks (asks.Bad (statuses.OtherMethod get)) = false
breaks asks.State = false
breaks (asks.Page name) = false
breaks (asks.Bytes name) = false
breaks (asks.Metadata name) = false
breaks (asks.Batch ask) = false
breaks (asks.Cite body) = false
breaks (asks.Migrate schema body) = false

-- the last of the messages breaks
abbrev pub last_breaks : List Message → Bool
last_breaks [] = false
last_breaks (m ∷ []) = breaks m.ask
last_breaks (m ∷ n ∷ ms) = last_breaks (n ∷ ms)

-- a closing message was answered
pub record IsClosed (a : Archive) (history : List Entry) (seen : Around) (broken : Bool) : Type 0 where
  pub text : List ℕ
  pub given : List Message
  pub rest : Rest
  pub taken : Taken text seen.left_before seen.left_after
  pub answered : AllAnswered a history seen text given rest
  pub closed : rest.closed ≡ true
  pub broken_is : last_breaks given ≡ broken

-- the input was taken to its end, and none of its messages closes; what is left of it is begun or not
pub record IsAtEnd (a : Archive) (history : List Entry) (seen : Around) (Left : List ℕ → Type 0) : Type 0 where
  pub text : List ℕ
  pub given : List Message
  pub rest : Rest
  pub taken : AllTaken text seen.left_before seen.left_after
  pub few : length text < 4294967296
  pub answered : AllAnswered a history seen text given rest
  pub unclosed : rest.closed ≡ false
  pub left : Left (begun rest.bytes)

-- no more was taken, and none of the messages of what was taken closes
pub record IsStopped (a : Archive) (history : List Entry) (seen : Around) (Size : ℕ → Type 0) : Type 0 where
  pub text : List ℕ
  pub given : List Message
  pub rest : Rest
  pub taken : Taken text seen.left_before seen.left_after
  pub size : Size (length text)
  pub answered : AllAnswered a history seen text given rest
  pub unclosed : rest.closed ≡ false

-- what a conversation came to, by its end
abbrev pub IsEnded : Archive → List Entry → Around → LinkEnd → Type 0
IsEnded a history seen ends.Done = IsClosed a history seen false ⊎ IsAtEnd a history seen (λ left. left ≡ [])
IsEnded a history seen ends.Broken = IsClosed a history seen true
IsEnded a history seen ends.Cut = IsAtEnd a history seen (λ left. left ≢ [])
IsEnded a history seen ends.TooLong = IsStopped a history seen (λ n. n ≡ 4294967296)
IsEnded a history seen ends.ReadFault = IsStopped a history seen (λ n. n < 4294967296) × Rose seen.reads_before seen.reads_after
IsEnded a history seen ends.WriteFault = ((text : List ℕ) × Taken text seen.left_before seen.left_after × LastIsCut a history seen text) × Rose seen.writes_before seen.writes_after
IsEnded a history seen ends.NoMemory = ⊤
