-- From what the desk answers to what is told.
use Rattle.std.proofs.Common.{◌≡◌, ℕ, Bool, true, false, ◌⊎◌, inl, inr, List, [], ◌∷◌, ◌++◌, Option, Some, None, Result, refl, sym, ap, ◌∙◌, subst}
use Rattle.std.specs.Prelude.{Ok, Err, IfOk, IsErrOf}
use Rattle.std.specs.Arc.{arc_value}
use Rattle.cite_schema.specs.declared.memory.NoMemory.{NoMemory}
use Rattle.query_json.specs.declared.fault.JsonFault.{JsonFault}
use Rattle.query_json.specs.declared.fault.JsonFault.TheVariants as requests
use Rattle.entry_codec.specs.declared.entry.Entry.{Entry}
use Rattle.archive_model.specs.declared.answers.Refused.{Refused}
use Rattle.archive_model.specs.declared.answers.Refused.TheVariants as refusals
use Rattle.archive_model.specs.Archives.{Archive}
use Rattle.archive_model.specs.Outcomes.{Outcome}
use Rattle.archive_state.specs.declared.present.Present.{Present}
use Rattle.archive_state.specs.Standing.{StandsFor, Shows}
use Rattle.archive_core.specs.Keeping.{Held}
use Rattle.archive_core.specs.Answering.{Answers, SameArchive}
use Rattle.archive_core.specs.Answering as answers
use Rattle.cite_http.specs.declared.ask.Ask.{Ask}
use Rattle.cite_http.specs.declared.ask.Ask.TheVariants as asks
use Rattle.cite_http.specs.declared.message.Message.{Message}
use Rattle.cite_http.specs.declared.reply.Reply.{Reply}
use Rattle.cite_answer.specs.Replies.{failed_reply, wanting_reply, unread_reply}
use Rattle.cite_answer.specs.Reads.{Reads}
use Rattle.cite_answer.specs.Messages.{Answered, Asked, One, asks_when}
use Rattle.cite_answer.specs.Fates.{Deed, TakesIf, Takes, MayTake, Fares, Stays, Grows, Fails, Wants}
use Rattle.archive_core.proofs.Outcomes.{KeepsOld}

-- how the outcomes of a call are told in the answer to a message: `Replied` says it of the archive afterwards
pub record IsTold {R : Type 0} (a : Archive) (message : Message) (now : ℕ) (step : Outcome R → Type 0) (Replied : Archive → Result R Refused → Reply → Type 0) : Type 0 where
  pub keeps : (o : Outcome R) → step o → KeepsOld a o
  pub some : (o : Outcome R) → step o → (reply : Reply) × Replied o.after o.reply reply
  pub one : (o : Outcome R) → step o → (reply : Reply) → Replied o.after o.reply reply → One a message now (record { reply = reply; entry = o.entry; after = o.after })
  pub failed : (b : Archive) (reply : Reply) → Replied b (Err refusals.DiskFailed) reply → reply ≡ failed_reply message.closing
  pub wanting : (b : Archive) (reply : Reply) → Replied b (Err refusals.NoMemory) reply → reply ≡ wanting_reply message.closing

-- what is answered is the reply that is due
abbrev pub IsDue : (Reply → Type 0) → Result Reply NoMemory → Type 0
IsDue Fared result = (reply : Reply) × Fared reply × IfOk result (λ r. r ≡ reply)

-- the reply that is answered, where there is one, and else another that would do
pub due_of : (Due Fared : Reply → Type 0) → ((r : Reply) → Due r → Fared r) → (reply : Reply) × Due reply → (result : Result Reply NoMemory) → IfOk result Due → IsDue Fared result
due_of Due Fared go other (Ok r) h = (r, go r h, refl)
due_of Due Fared go (reply, p) (Err e) h = (reply, go reply p, tt)

pub ok_turned : (P Q : Reply → Type 0) (result : Result Reply NoMemory) → ((r : Reply) → P r → Q r) → IfOk result P → IfOk result Q
ok_turned P Q (Ok r) turn h = turn r h
ok_turned P Q (Err e) turn h = tt

-- what the desk answers is told
pub told_so : {R : Type 0} (a : Archive) (message : Message) (now : ℕ) (history : List Entry) (deed : Deed) (step : Outcome R → Type 0) (Replied : Archive → Result R Refused → Reply → Type 0)
    → IsTold a message now step Replied → Takes message.ask now deed → MayTake message.ask deed → StandsFor deed.old.present history a
    → (told : Result R Refused) (result : Result Reply NoMemory) → (IsErrOf told refusals.DiskFailed → deed.rose)
    → Answers step history (deed.before history) deed.after deed.untouched deed.old deed.new told
    → IfOk result (λ r. (b : Archive) → Shows (arc_value deed.new.present.snapshot) b → Replied b told r)
    → IsDue (Fares a message history deed) result
told_so {R} a message now history deed step Replied t takes may stands told result rose (answers.Stays o s none is same untouched) h =
    let shows : Shows (arc_value deed.new.present.snapshot) a = subst (λ (w : Held). Shows (arc_value w.present.snapshot) a) (sym same) stands.agrees.shows in
    due_of (Replied o.after o.reply) (Fares a message history deed)
    (λ r p. Stays now (record { reply = r; entry = o.entry; after = o.after }) takes (t.one o s r p) none refl same untouched)
    (t.some o s) result
    (ok_turned (λ r. (b : Archive) → Shows (arc_value deed.new.present.snapshot) b → Replied b told r) (Replied o.after o.reply) result
    (λ r k. subst (λ (b : Archive). Replied b o.reply r) (sym (t.keeps o s none)) (subst (λ (w : Result R Refused). Replied a w r) is (k a shows))) h)
told_so {R} a message now history deed step Replied t takes may stands told result rose (answers.Grows o e s some is after ready made settled kept) h =
    due_of (Replied o.after o.reply) (Fares a message history deed)
    (λ r p. Grows now (record { reply = r; entry = o.entry; after = o.after }) e takes (t.one o s r p) some refl after ready settled kept)
    (t.some o s) result
    (ok_turned (λ r. (b : Archive) → Shows (arc_value deed.new.present.snapshot) b → Replied b told r) (Replied o.after o.reply) result
    (λ r k. subst (λ (w : Result R Refused). Replied o.after w r) is (k o.after after.agrees.shows)) h)
told_so {R} a message now history deed step Replied t takes may stands told result rose (answers.Fails o e s some is same kept) h =
    let shows : Shows (arc_value deed.new.present.snapshot) a = subst (λ (w : Present). Shows (arc_value w.snapshot) a) (sym same.0) stands.agrees.shows in
    let other = t.some o s in
    due_of (λ r. r ≡ failed_reply message.closing) (Fares a message history deed)
    (λ r p. Fails now (record { reply = other.0; entry = o.entry; after = o.after }) e takes (t.one o s other.0 other.1) some p same kept (rose (subst (λ (w : Result R Refused). IsErrOf w refusals.DiskFailed) (sym is) refl)))
    (failed_reply message.closing, refl) result
    (ok_turned (λ r. (b : Archive) → Shows (arc_value deed.new.present.snapshot) b → Replied b told r) (λ r. r ≡ failed_reply message.closing) result
    (λ r k. t.failed a r (subst (λ (w : Result R Refused). Replied a w r) is (k a shows))) h)
told_so {R} a message now history deed step Replied t takes may stands told result rose (answers.Wants is same kept) h =
    let shows : Shows (arc_value deed.new.present.snapshot) a = subst (λ (w : Present). Shows (arc_value w.snapshot) a) (sym same.0) stands.agrees.shows in
    due_of (λ r. r ≡ wanting_reply message.closing) (Fares a message history deed)
    (λ r p. Wants may p same kept)
    (wanting_reply message.closing, refl) result
    (ok_turned (λ r. (b : Archive) → Shows (arc_value deed.new.present.snapshot) b → Replied b told r) (λ r. r ≡ wanting_reply message.closing) result
    (λ r k. t.wanting a r (subst (λ (w : Result R Refused). Replied a w r) is (k a shows))) h)

-- a message that changes nothing and takes no moment is told
pub quiet_told : (a : Archive) (m : Message) (history : List Entry) (deed : Deed) → deed.new ≡ deed.old → deed.untouched → deed.given_after ≡ deed.given_before
    → (Due : Reply → Type 0) → ((r : Reply) → Due r → One a m 0 (record { reply = r; entry = None; after = a }) × (asks_when m.ask ≡ false)) → (reply : Reply) × Due reply
    → (result : Result Reply NoMemory) → IfOk result Due → IsDue (Fares a m history deed) result
quiet_told a m history deed same untouched given Due go other result h =
    due_of Due (Fares a m history deed)
    (λ r p.
    let (one, never) = go r p in
    Stays 0 (record { reply = r; entry = None; after = a }) (subst (λ (b : Bool). TakesIf b 0 deed) (sym never) given) one refl refl same untouched)
    other result h

-- want of memory is told
wanting_told : (a : Archive) (m : Message) (history : List Entry) (deed : Deed) → deed.new ≡ deed.old → deed.given_after ≡ deed.given_before → ((d : Entry) → deed.before history d → deed.after history d)
    → (result : Result Reply NoMemory) → IfOk result (λ r. r ≡ wanting_reply m.closing) → IsDue (Fares a m history deed) result
wanting_told a m history deed same given kept result h =
    due_of (λ r. r ≡ wanting_reply m.closing) (Fares a m history deed)
    (λ r p. Wants (inl given) p (ap (λ (w : Held). w.present) same, ap (λ (w : Held). w.ready) same, ap (λ (w : Held). w.made) same) kept)
    (wanting_reply m.closing, refl) result h

-- a body that is no request is told so
pub unread_told : (a : Archive) (m : Message) (history : List Entry) (deed : Deed) → deed.new ≡ deed.old → deed.untouched → deed.given_after ≡ deed.given_before → ((d : Entry) → deed.before history d → deed.after history d)
    → (fault : JsonFault) → ((fault ≡ requests.NoMemory → ⊥) → (r : Reply) → r ≡ unread_reply m.closing fault → One a m 0 (record { reply = r; entry = None; after = a }) × (asks_when m.ask ≡ false))
    → (result : Result Reply NoMemory) → IfOk result (λ r. r ≡ unread_reply m.closing fault) → IsDue (Fares a m history deed) result
unread_told a m history deed same untouched given kept fault go result h = by fault refl
  where
    quiet : (fault ≡ requests.NoMemory → ⊥) → IsDue (Fares a m history deed) result
    quiet other = quiet_told a m history deed same untouched given (λ r. r ≡ unread_reply m.closing fault) (go other) (unread_reply m.closing fault, refl) result h

    by : (told : JsonFault) → fault ≡ told → IsDue (Fares a m history deed) result
    by requests.NoMemory e = wanting_told a m history deed same given kept result (subst (λ (f : JsonFault). IfOk result (λ r. r ≡ unread_reply m.closing f)) e h)
    by requests.NotJson e = quiet (λ no. absurd (cc))
    by requests.NotARequest e = quiet (λ no. absurd (cc))
    by (requests.NotAQuery part) e = quiet (λ no. absurd (cc))
    by requests.NotAMeta e = quiet (λ no. absurd (cc))
    by requests.NotSteps e = quiet (λ no. absurd (cc))

-- what is read is told
read_one : (a : Archive) (ask : Ask) (closing : Bool) (r : Reply) → Reads a ask closing r → Asked a ask closing 0 (record { reply = r; entry = None; after = a }) × (asks_when ask ≡ false)
read_one a asks.State closing r h = ((record { none = refl; same = refl }, h), refl)
read_one a (asks.Page name) closing r h = ((record { none = refl; same = refl }, h), refl)
read_one a (asks.Bytes name) closing r h = ((record { none = refl; same = refl }, h), refl)
read_one a (asks.Metadata name) closing r h = ((record { none = refl; same = refl }, h), refl)
read_one a (asks.Bad status) closing r h = ((record { none = refl; same = refl }, h), refl)
read_one a (asks.Batch ask) closing r h = absurd h
read_one a (asks.Cite body) closing r h = absurd h
read_one a (asks.Migrate schema body) closing r h = absurd h

pub read_told : (a : Archive) (m : Message) (history : List Entry) (deed : Deed) → deed.new ≡ deed.old → deed.untouched → deed.given_after ≡ deed.given_before → ((d : Entry) → deed.before history d → deed.after history d)
    → (result : Result Reply NoMemory) → IfOk result (λ r. Reads a m.ask m.closing r) → IsDue (Fares a m history deed) result
read_told a m history deed same untouched given kept (Ok r) h =
    let (one, never) = read_one a m.ask m.closing r h in
    (r, Stays 0 (record { reply = r; entry = None; after = a }) (subst (λ (b : Bool). TakesIf b 0 deed) (sym never) given) one refl refl same untouched, refl)
read_told a m history deed same untouched given kept (Err e) h =
    (wanting_reply m.closing, Wants (inl given) refl (ap (λ (w : Held). w.present) same, ap (λ (w : Held). w.ready) same, ap (λ (w : Held). w.made) same) kept, tt)

-- a message is its ask and whether it closes
pub message_is : (m : Message) (ask : Ask) → m.ask ≡ ask → record { ask = ask; closing = m.closing } ≡ m
message_is m ask e = ap (λ (k : Ask). record m { ask = k }) (sym e)

-- a result is not a fault
pub ok_is_none : {A E : Type 0} (x : A) (e : E) → ◌≡◌ {A = Result A E} (Ok x) (Err e) → ⊥
ok_is_none x e h = absurd (cc)

pub other_fault : {A E : Type 0} (f e : E) → (f ≡ e → ⊥) → ◌≡◌ {A = Result A E} (Err f) (Err e) → ⊥
other_fault f e other h = other (cc)
