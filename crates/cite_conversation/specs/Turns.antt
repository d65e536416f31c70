-- How messages go, one after the other, in a conversation with an archive.
use Rattle.std.specs.Prelude.{◌≡◌, ◌⊎◌, ℕ, Bool, true, false, List, [], ◌∷◌, Option, Some, None, if◌then◌else◌}
use Rattle.std.specs.List.{flat_map}
use Rattle.entry_codec.specs.declared.entry.Entry.{Entry}
use Rattle.archive_model.specs.Archives.{Archive}
use Rattle.archive_model.specs.Outcomes.{entries_of}
use Rattle.cite_http.specs.declared.ask.Ask.{Ask}
use Rattle.cite_http.specs.declared.message.Message.{Message}
use Rattle.cite_http.specs.declared.reply.Reply.{Reply}
use Rattle.cite_http.specs.Responses.{response_of}
use Rattle.cite_answer.specs.Replies.{failed_reply, wanting_reply}
use Rattle.cite_answer.specs.Messages.{Answered, One, asks_when}

-- how a message went: the moments of the clock that it took, its reply, the entry that it made, if it made one, the entry
-- under which the disk failed, if it did, and the archive afterwards
pub record Turn : Type 0 where
  pub moments : List ℕ
  pub reply : Reply
  pub entry : Option Entry
  pub failed : Option Entry
  pub after : Archive

-- the moments that a message takes at a moment: that one, or none
abbrev pub moments_of : Ask → (now : ℕ) → List ℕ
moments_of ask now = if asks_when ask then now ∷ [] else []

-- none was taken, or the one that is asked for
abbrev pub MayBeTaken : Ask → (moments : List ℕ) → Type 0
MayBeTaken ask moments = (moments ≡ []) ⊎ ((now : ℕ) × (asks_when ask ≡ true) × (moments ≡ now ∷ []))

-- a message goes as it is defined; or the disk fails in the place of its new entry; or memory is wanting. The last two
-- leave the archive as it was
pub data Goes (a : Archive) (m : Message) (t : Turn) : Type 0 where
  AsDefined : (now : ℕ) (one : Answered) → One a m now one
      → t ≡ record { moments = moments_of m.ask now; reply = one.reply; entry = one.entry; failed = None; after = one.after } → Goes a m t
  WithoutDisk : (now : ℕ) (one : Answered) (e : Entry) → One a m now one → one.entry ≡ Some e
      → t ≡ record { moments = moments_of m.ask now; reply = failed_reply m.closing; entry = None; failed = Some e; after = a } → Goes a m t
  WithoutMemory : (moments : List ℕ) → MayBeTaken m.ask moments
      → t ≡ record { moments = moments; reply = wanting_reply m.closing; entry = None; failed = None; after = a } → Goes a m t

-- messages go one after the other, and lead from one archive to another
abbrev pub Talks : Archive → List Message → List Turn → Archive → Type 0
Talks a [] [] b = a ≡ b
Talks a (m ∷ ms) (t ∷ ts) b = Goes a m t × Talks t.after ms ts b
Talks a [] (t ∷ ts) b = ⊥
Talks a (m ∷ ms) [] b = ⊥

-- the moments that were taken, in order
abbrev pub moments_in : List Turn → List ℕ
moments_in = flat_map (λ t. t.moments)

-- the bytes of the responses, in order
abbrev pub responses_in : List Turn → List ℕ
responses_in = flat_map (λ t. response_of t.reply)

-- the entries that were made, in order
abbrev pub entries_in : List Turn → List Entry
entries_in = flat_map (λ t. entries_of t.entry)

-- the entries under which the disk failed, in order
abbrev pub failed_in : List Turn → List Entry
failed_in = flat_map (λ t. entries_of t.failed)

-- the last that wrote to the disk failed, after one turn more; `before` says so of what came before it
abbrev pub fails_by : (before : Bool) → (entry failed : Option Entry) → Bool
fails_by before entry (Some e) = true
fails_by before (Some e) None = false
fails_by before None None = before

-- the last of the turns that wrote to the disk failed; `before` says so of the turns before these
abbrev pub fails_after : (before : Bool) → List Turn → Bool
fails_after before [] = before
fails_after before (t ∷ ts) = fails_after (fails_by before t.entry t.failed) ts

abbrev pub fails_last : List Turn → Bool
fails_last = fails_after false
