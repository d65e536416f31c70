-- What one message does to an archive.
use Rattle.std.specs.Prelude.{◌≡◌, ℕ, Bool, true, false, List, Option, Some, None, Result, Ok, Err, ⊤, is_ok}
use Rattle.cite_schema.specs.declared.batch_ask.BatchAsk.{BatchAsk}
use Rattle.cite_schema.specs.declared.query.CiteAsk.{CiteAsk}
use Rattle.cite_schema.specs.declared.step.Step.{Step}
use Rattle.query_json.specs.declared.fault.JsonFault.{JsonFault}
use Rattle.query_json.specs.Requests.{request_in}
use Rattle.query_json.specs.Steps.{steps_in}
use Rattle.identifiers.specs.Names.{name_of}
use Rattle.identifiers.specs.declared.named.Named.TheVariants.{Subset}
use Rattle.entry_codec.specs.declared.entry.Entry.{Entry}
use Rattle.archive_model.specs.declared.answers.Refused.{Refused}
use Rattle.archive_model.specs.declared.answers.Stored.{Stored}
use Rattle.archive_model.specs.declared.answers.Cited.{Cited}
use Rattle.archive_model.specs.declared.answers.Moved.{Moved}
use Rattle.archive_model.specs.Archives.{Archive, Minted}
use Rattle.archive_model.specs.Outcomes.{Outcome}
use Rattle.archive_model.specs.Batching.{batch_step}
use Rattle.archive_model.specs.Citing.{CiteStep}
use Rattle.archive_model.specs.Migrating.{MigrateStep}
use Rattle.archive_model.specs.Histories.{MayBeAsked}
use Rattle.archive_state.specs.Executing.{minted_as}
use Rattle.datacite_meta.specs.Metadata.{citation_text}
use Rattle.cite_http.specs.declared.ask.Ask.{Ask}
use Rattle.cite_http.specs.declared.ask.Ask.TheVariants as asks
use Rattle.cite_http.specs.declared.message.Message.{Message}
use Rattle.cite_http.specs.declared.reply.Reply.{Reply}
use Rattle.cite_answer.specs.Bodies.{stored_json, cited_json, moved_json}
use Rattle.cite_answer.specs.Replies.{change_reply, refusal_reply, unread_reply}
use Rattle.cite_answer.specs.Reads.{Reads}

-- what becomes of a message: its reply, the entry that it makes, if it makes one, and the archive afterwards
pub record Answered : Type 0 where
  pub reply : Reply
  pub entry : Option Entry
  pub after : Archive

-- the reply to a batch
abbrev pub stored_reply : (prefix : List ℕ) (closing : Bool) → Result Stored Refused → Reply
stored_reply prefix closing (Ok stored) = change_reply stored.new (stored_json stored) closing
stored_reply prefix closing (Err refusal) = refusal_reply prefix closing refusal

-- the reply to a migration
abbrev pub moved_reply : (prefix : List ℕ) (closing : Bool) → Result Moved Refused → Reply
moved_reply prefix closing (Ok moved) = change_reply true (moved_json moved) closing
moved_reply prefix closing (Err refusal) = refusal_reply prefix closing refusal

-- the reply to a citation request, of the archive afterwards: the text is that of the citation that is answered
abbrev pub TellsCited : Archive → (closing : Bool) → Result Cited Refused → Reply → Type 0
TellsCited b closing (Ok cited) reply = (m : Minted) × (minted_as b cited.number ≡ Some m)
    × (reply ≡ change_reply cited.new (cited_json (name_of b.dataset.prefix (Subset cited.number)) cited.new (citation_text b.dataset m.issue)) closing)
TellsCited b closing (Err refusal) reply = reply ≡ refusal_reply b.dataset.prefix closing refusal

-- the archive stays as it is
pub record Keeps (a : Archive) (answered : Answered) : Type 0 where
  pub none : answered.entry ≡ None
  pub same : answered.after ≡ a

-- the outcome of a call is told
pub record Tells {R : Type 0} (o : Outcome R) (answered : Answered) : Type 0 where
  pub entry : answered.entry ≡ o.entry
  pub after : answered.after ≡ o.after

-- a batch
abbrev pub Stores : Archive → BatchAsk → (closing : Bool) (now : ℕ) → Answered → Type 0
Stores a ask closing now answered =
    Tells (batch_step a ask now) answered × (answered.reply ≡ stored_reply answered.after.dataset.prefix closing (batch_step a ask now).reply)

-- a citation request, by what its body is read as
abbrev pub Cites : Archive → Result CiteAsk JsonFault → (closing : Bool) (now : ℕ) → Answered → Type 0
Cites a (Err fault) closing now answered = Keeps a answered × (answered.reply ≡ unread_reply closing fault)
Cites a (Ok ask) closing now answered =
    (o : Outcome Cited) × CiteStep a ask now o × Tells o answered × TellsCited answered.after closing o.reply answered.reply

-- a migration, by what its body is read as
abbrev pub Migrates : Archive → (schema : ℕ) → Result (List Step) JsonFault → (closing : Bool) (now : ℕ) → Answered → Type 0
Migrates a schema (Err fault) closing now answered = Keeps a answered × (answered.reply ≡ unread_reply closing fault)
Migrates a schema (Ok steps) closing now answered =
    (o : Outcome Moved) × MigrateStep a schema steps now o × Tells o answered × (answered.reply ≡ moved_reply answered.after.dataset.prefix closing o.reply)

-- what a message asks for, of the archive, at a moment
abbrev pub Asked : Archive → Ask → (closing : Bool) (now : ℕ) → Answered → Type 0
Asked a (asks.Batch ask) closing now answered = Stores a ask closing now answered
Asked a (asks.Cite body) closing now answered = Cites a (request_in body) closing now answered
Asked a (asks.Migrate schema body) closing now answered = Migrates a schema (steps_in body) closing now answered
Asked a asks.State closing now answered = Keeps a answered × Reads a asks.State closing answered.reply
Asked a (asks.Page name) closing now answered = Keeps a answered × Reads a (asks.Page name) closing answered.reply
Asked a (asks.Bytes name) closing now answered = Keeps a answered × Reads a (asks.Bytes name) closing answered.reply
Asked a (asks.Metadata name) closing now answered = Keeps a answered × Reads a (asks.Metadata name) closing answered.reply
Asked a (asks.Bad status) closing now answered = Keeps a answered × Reads a (asks.Bad status) closing answered.reply

-- what becomes of a message at a moment
abbrev pub One : Archive → Message → (now : ℕ) → Answered → Type 0
One a message now answered = Asked a message.ask message.closing now answered

-- the message takes a moment of the clock: a batch, whatever its body is, and a citation request or a migration whose body is read
abbrev pub asks_when : Ask → Bool
asks_when (asks.Batch ask) = true
asks_when (asks.Cite body) = is_ok (request_in body)
asks_when (asks.Migrate schema body) = is_ok (steps_in body)
asks_when asks.State = false
asks_when (asks.Page name) = false
asks_when (asks.Bytes name) = false
asks_when (asks.Metadata name) = false
asks_when (asks.Bad status) = false

-- the message asks for no change
abbrev pub IsRead : Ask → Type 0
IsRead (asks.Batch ask) = ⊥
IsRead (asks.Cite body) = ⊥
IsRead (asks.Migrate schema body) = ⊥
IsRead asks.State = ⊤
IsRead (asks.Page name) = ⊤
IsRead (asks.Bytes name) = ⊤
IsRead (asks.Metadata name) = ⊤
IsRead (asks.Bad status) = ⊤

-- a batch is one that may be asked for
abbrev pub IsAskable : Ask → Type 0
IsAskable (asks.Batch ask) = MayBeAsked ask
IsAskable (asks.Cite body) = ⊤
IsAskable (asks.Migrate schema body) = ⊤
IsAskable asks.State = ⊤
IsAskable (asks.Page name) = ⊤
IsAskable (asks.Bytes name) = ⊤
IsAskable (asks.Metadata name) = ⊤
IsAskable (asks.Bad status) = ⊤
