-- Where nothing fails, `init`, `verify` and `session` are done, or find memory wanting.
use Rattle.std.specs.Prelude.{◌≡◌, ◌⊎◌, ◌<◌, List, [], ℕ, Some, true, false, length}
use Rattle.std.specs.Io.KnownBytes.{Appends}
use Rattle.cite_ports.specs.Ports.{Holds, Rose, Shows}
use Rattle.cite_disk.specs.Device.{RoseBy}
use Rattle.cite_schema.specs.declared.schema.Column.{Column}
use Rattle.cite_schema.specs.declared.dataset.Dataset.{Dataset}
use Rattle.entry_codec.specs.declared.entry.Entry.{Entry}
use Rattle.archive_model.specs.Archives.{Archive}
use Rattle.archive_model.specs.Histories.{LeadsTo}
use Rattle.cite_http.specs.Heads.{begun}
use Rattle.cite_http.specs.Messages.{Rest, Messages, whole}
use Rattle.cite_http.specs.declared.message.Message.{Message}
use Rattle.cite_conversation.specs.Streams.{Put}
use Rattle.cite_conversation.specs.Turns.{Turn, Talks, moments_in, responses_in, failed_in}
use Rattle.cite_conversation.specs.Conversations.{last_breaks}
use Rattle.cite_cli.specs.Seen.{Seen, OnDisk}
use Rattle.cite_cli.specs.Init.{IsInit, IsUnbroken, name_line}
use Rattle.cite_cli.specs.Verify.{IsVerify, Carries, verify_text}
use Rattle.cite_cli.specs.Session.{IsSession}
use Rattle.cite_cli.specs.Run.{Answers}

-- neither the sink nor the disk counted a fault, and neither count stands at its last value
pub record IsFaultless (seen : Seen) (disk : OnDisk) : Type 0 where
  pub sink_kept : Rose seen.writes_before seen.writes_after → ⊥
  pub disk_kept : RoseBy disk.faults_before 1 disk.faults_after → ⊥

-- the run is done and these bytes are written, or memory was wanting
abbrev pub IsDoneWith : List ℕ → Seen → ℕ → Type 0
IsDoneWith bytes seen status = ((status ≡ 0) × Holds bytes seen.written_before seen.written_after) ⊎ (status ≡ 8)

-- an `init` is done where the disk is empty, and neither its words nor the moment that it took break a rule
abbrev pub InitCompletes : OnDisk → Type 0
InitCompletes disk = (words : List (List ℕ)) (seen : Seen) (status : ℕ) (dataset : Dataset) (columns : List Column) → Answers words seen disk status → IsInit words dataset columns
    → ((moment : ℕ) → Shows moment seen.given_before seen.given_after → IsUnbroken (record { stamp = moment; dataset = dataset; columns = columns }))
    → disk.honest → length disk.before ≡ 0 → IsFaultless seen disk → IsDoneWith (name_line dataset) seen status

-- a `verify` is done where the disk's bytes stand for a legal history
abbrev pub VerifyCompletes : OnDisk → Type 0
VerifyCompletes disk = (words : List (List ℕ)) (seen : Seen) (status : ℕ) (history : List Entry) (a : Archive) → Answers words seen disk status → IsVerify words
    → LeadsTo history a → Carries disk.before history → disk.honest → IsFaultless seen disk → IsDoneWith (verify_text a) seen status

-- the text was left, and is short enough. These are its messages, none of which breaks, and the last of them closes, or nothing is begun behind it
pub record IsWholeInput (seen : Seen) (text : List ℕ) (given : List Message) (rest : Rest) : Type 0 where
  pub told : seen.left_before ≡ Some text
  pub few : length text < 4294967296
  pub messages : Messages (whole text) given rest
  pub unbroken : last_breaks given ≡ false
  pub ends : (rest.closed ≡ true) ⊎ (begun rest.bytes ≡ [])

-- each of the messages was answered from the archive, the disk failed under none, and the responses are written, one behind the other
pub record IsAnswered (a : Archive) (seen : Seen) (given : List Message) : Type 0 where
  pub turns : List Turn
  pub after : Archive
  pub talks : Talks a given turns after
  pub unfailed : failed_in turns ≡ []
  pub moments : Appends seen.given_before seen.given_after (moments_in turns)
  pub written : Put (responses_in turns) seen.written_before seen.written_after

-- a `session` over a whole input is done where the disk's bytes stand for a legal history and the source counts no fault either
abbrev pub SessionCompletes : OnDisk → Type 0
SessionCompletes disk = (words : List (List ℕ)) (seen : Seen) (status : ℕ) (history : List Entry) (a : Archive) (text : List ℕ) (given : List Message) (rest : Rest) → Answers words seen disk status → IsSession words
    → LeadsTo history a → Carries disk.before history → disk.honest → IsFaultless seen disk → (Rose seen.reads_before seen.reads_after → ⊥)
    → IsWholeInput seen text given rest → ((status ≡ 0) × IsAnswered a seen given) ⊎ (status ≡ 8)
