-- Where nothing fails, a `session` over a whole input is done, or memory was wanting.
use Rattle.std.proofs.Common.{◌≡◌, ◌⊎◌, ◌≢◌, ◌<◌, ◌≤◌, ◌+◌, ◌∙◌, ℕ, zero, suc, Bool, true, false, List, [], ◌∷◌, ◌++◌, Option, Some, None, length, codes, inl, inr, ⊎_elim, refl, sym, ap, subst, arith}
use Rattle.std.proofs.lemmas.List.{length-append}
use Rattle.cite_ports.specs.Ports.{Holds, Rose}
use Rattle.cite_disk.specs.Device.{RoseBy}
use Rattle.entry_codec.specs.declared.entry.Entry.{Entry}
use Rattle.archive_model.specs.Archives.{Archive}
use Rattle.archive_model.specs.Histories.{LeadsTo}
use Rattle.archive_model.proofs.OneArchive.{leads_once}
use Rattle.archive_core.proofs.OneHistory.{one_history}
use Rattle.cite_http.specs.Heads.{begun}
use Rattle.cite_http.specs.Messages.{Rest, Gives, Closed, Waits, Messages, End, Then, fed, whole}
use Rattle.cite_http.specs.declared.message.Message.{Message}
use Rattle.cite_http.proofs.Steps.{gives_more, messages_unique}
use Rattle.cite_conversation.specs.Streams.{Taken, AllTaken}
use Rattle.cite_conversation.specs.Turns.{failed_in}
use Rattle.cite_conversation.specs.Conversations.{AllAnswered, IsAtEnd, IsClosed, IsEnded, last_breaks}
use Rattle.cite_conversation.specs.declared.end.LinkEnd.{LinkEnd}
use Rattle.cite_conversation.specs.declared.end.LinkEnd.TheVariants as ends
use Rattle.cite_cli.specs.declared.ending.Ending.{Ending}
use Rattle.cite_cli.specs.declared.ending.Ending.TheVariants as endings
use Rattle.cite_cli.specs.Seen.{Seen, OnDisk, Ends}
use Rattle.cite_cli.specs.Seen.Ends.{Whole, Cut, Fails, Wants}
use Rattle.cite_cli.specs.Verify.{Carries, UnopenedWrites, VerifyBreaks, IsQuiet}
use Rattle.cite_cli.specs.Session.{IsSession, Sessions, Unopened, Opened, Converses, around, ending_of}
use Rattle.cite_cli.specs.Run.{status_of, IsRun, Answers}
use Rattle.cite_cli.specs.Run.IsRun.{BySelect, ByInit, ByVerify, BySession}
use Rattle.cite_cli.specs.Completing.{IsFaultless, IsWholeInput, IsAnswered, SessionCompletes}
use Rattle.cite_cli.proofs.Completing.{first_of, verify_no_more}

by_session : (words : List (List ℕ)) (seen : Seen) (disk : OnDisk) (ending : Ending) → IsRun words seen disk ending → IsSession words → Sessions seen disk ending
by_session words seen disk ending (BySelect column bounds form apart did) is =
    absurd (verify_no_more (codes "session") (codes "select") column (form.low ∷ form.high ∷ []) (sym is ∙ form.words_are))
by_session words seen disk ending (ByInit d cs form did) is =
    absurd (verify_no_more (codes "session") (codes "init") d.prefix (d.publisher ∷ d.creator ∷ d.title ∷ form.first ∷ form.more) (sym is ∙ form.words_are))
by_session words seen disk ending (ByVerify form did) is =
    let same : 6 ≡ 7 = ap length (first_of (codes "verify") (codes "session") [] [] (sym form ∙ is)) in
    absurd (omega (arith, same))
by_session words seen disk ending (BySession form did) is = did

-- behind a closing message nothing is given, whatever comes there
none_behind : (r s : Rest) (more : List ℕ) → Gives r None s → s.closed ≡ true → Gives (fed r more) None (fed s more)
none_behind r s more (Closed bytes) c = Closed (bytes ++ more)
none_behind r s more (Waits bytes reads) c = absurd (cc)

closed_more : (r s : Rest) (ms : List Message) (more : List ℕ) → Messages r ms s → s.closed ≡ true → Messages (fed r more) ms (fed s more)
closed_more r s ms more (End a b gives) c = End (fed a more) (fed b more) (none_behind a b more gives c)
closed_more r s ms more (Then a b d m ks gives others) c = Then (fed a more) (fed b more) (fed d more) m ks (gives_more a b m more gives) (closed_more b d ks more others c)

-- what was taken of a text is its front
front_taken : (taken text : List ℕ) (before after : Option (List ℕ)) → before ≡ Some text → Taken taken before after → (more : List ℕ) × (text ≡ taken ++ more)
front_taken taken text None after e h = absurd (cc)
front_taken taken text (Some left) None e h = absurd h
front_taken taken text (Some left) (Some more) e h = (more, let same : left ≡ text = cc in sym same ∙ h)

all_taken : (taken text : List ℕ) (before after : Option (List ℕ)) → before ≡ Some text → AllTaken taken before after → text ≡ taken
all_taken taken text None after e h = absurd (cc)
all_taken taken text (Some left) after e h = let same : left ≡ text = cc in sym same ∙ h.0

-- the disk failed under no message where it counted no fault
none_failed : (failed : List Entry) (before from after : ℕ) → before ≤ from → (RoseBy before 1 after → ⊥) → RoseBy from (length failed) after → failed ≡ []
none_failed [] before from after later never rose = refl
none_failed (e ∷ es) before from after later never (inl up) = absurd (never (inl (let some : 1 ≤ length (e ∷ es) = omega arith in omega (arith, later, up, some))))
none_failed (e ∷ es) before from after later never (inr top) = absurd (never (inr top))

-- the session was done and answered, or memory was wanting
abbrev IsDoneBy : Archive → Seen → List Message → ℕ → Type 0
IsDoneBy a seen given status = ((status ≡ 0) × IsAnswered a seen given) ⊎ (status ≡ 8)

module _ (disk : OnDisk) (seen : Seen) (history : List Entry) (a : Archive) (text : List ℕ) (given : List Message) (rest : Rest)
    (leads : LeadsTo history a) (carried : Carries disk.before history) (honest : disk.honest) (well : IsFaultless seen disk)
    (unfailing : Rose seen.reads_before seen.reads_after → ⊥) (input : IsWholeInput seen text given rest) where
  -- all messages of the text were answered, if these are its messages
  answered : (b : Archive) (other : List Entry) (from : ℕ) (front : List ℕ) (ms : List Message) (left : Rest) → disk.faults_before ≤ from → b ≡ a → ms ≡ given
      → AllAnswered b other (around seen disk from) front ms left → IsAnswered a seen given
  answered b other from front ms left later same all went =
      subst (λ (x : Archive). IsAnswered x seen given) same
      (subst (IsAnswered b seen) all
      (record {
        turns = went.turns;
        after = went.went.after;
        talks = went.went.talks;
        unfailed = none_failed (failed_in went.turns) disk.faults_before from disk.faults_after later well.disk_kept went.went.faults;
        moments = went.went.moments;
        written = went.written;
      }))

  -- a message of the text closed
  closing : (b : Archive) (other : List Entry) (from : ℕ) (broken : Bool) → disk.faults_before ≤ from → b ≡ a → IsClosed b other (around seen disk from) broken → IsAnswered a seen given × (last_breaks given ≡ broken)
  closing b other from broken later same c =
      let (more, is) = front_taken c.text text seen.left_before seen.left_after input.told c.taken in
      let here : Messages (whole text) c.given (fed c.rest more) = subst (λ (t : List ℕ). Messages (whole t) c.given (fed c.rest more)) (sym is) (closed_more (whole c.text) c.rest c.given more c.answered.messages c.closed) in
      let all = (messages_unique (whole text) (fed c.rest more) rest c.given given here input.messages).0 in
      (answered b other from c.text c.given c.rest later same all c.answered, ap last_breaks (sym all) ∙ c.broken_is)

  -- the text was taken to its end
  ending : (b : Archive) (other : List Entry) (from : ℕ) (Left : List ℕ → Type 0) → disk.faults_before ≤ from → b ≡ a → IsAtEnd b other (around seen disk from) Left
      → IsAnswered a seen given × (rest.closed ≡ false) × Left (begun rest.bytes)
  ending b other from Left later same c =
      let is = all_taken c.text text seen.left_before seen.left_after input.told c.taken in
      let here : Messages (whole text) c.given c.rest = subst (λ (t : List ℕ). Messages (whole t) c.given c.rest) (sym is) c.answered.messages in
      let both = messages_unique (whole text) c.rest rest c.given given here input.messages in
      (answered b other from c.text c.given c.rest later same both.0 c.answered, ap (λ (r : Rest). r.closed) (sym both.1) ∙ c.unclosed, subst (λ (r : Rest). Left (begun r.bytes)) both.1 c.left)

  -- a conversation over the text that ended so was done, or memory was wanting
  ended : (b : Archive) (other : List Entry) (from : ℕ) (end : LinkEnd) → disk.faults_before ≤ from → b ≡ a → IsEnded b other (around seen disk from) end → IsDoneBy a seen given (status_of (ending_of end))
  ended b other from ends.Done later same (inl closed) = inl (refl, (closing b other from false later same closed).0)
  ended b other from ends.Done later same (inr at_end) = inl (refl, (ending b other from (λ left. left ≡ []) later same at_end).0)
  ended b other from ends.Broken later same closed =
      let broken : last_breaks given ≡ true = (closing b other from true later same closed).1 in
      let kept = input.unbroken in
      absurd (cc)
  ended b other from ends.Cut later same at_end =
      let found = ending b other from (λ left. left ≢ []) later same at_end in
      let unclosed : rest.closed ≡ false = found.1 in
      absurd (⊎_elim (λ closed. let both : rest.closed ≡ true = closed in absurd (cc)) (λ none. found.2 none) input.ends)
  ended b other from ends.TooLong later same stopped =
      let (more, is) = front_taken stopped.text text seen.left_before seen.left_after input.told stopped.taken in
      let few = input.few in
      let size = stopped.size in
      let long : length text ≡ length stopped.text + length more = ap length is ∙ length-append stopped.text more in
      absurd (omega (arith, few, size, long))
  ended b other from ends.ReadFault later same stopped = absurd (unfailing stopped.1)
  ended b other from ends.WriteFault later same cut = absurd (well.sink_kept cut.1)
  ended b other from ends.NoMemory later same any = inr refl

  -- a disk that stands for a history was opened, or memory was wanting
  unopened : (end : Ending) (bytes : List ℕ) → UnopenedWrites disk end bytes → ⊥
  unopened endings.NotArchive bytes writes = writes.none honest history a leads carried
  unopened endings.Done bytes writes = writes
  unopened endings.Refused bytes writes = writes
  unopened endings.Occupied bytes writes = writes
  unopened endings.Usage bytes writes = writes
  unopened endings.ReadFault bytes writes = writes
  unopened endings.WriteFault bytes writes = writes
  unopened endings.DiskFault bytes writes = writes
  unopened endings.NoMemory bytes writes = writes
  unopened endings.TooLong bytes writes = writes
  unopened endings.Cut bytes writes = writes
  unopened endings.Broken bytes writes = writes

  shut_ends : (end : Ending) → Ends (UnopenedWrites disk) (VerifyBreaks disk) (IsQuiet disk) seen end → IsDoneBy a seen given (status_of end)
  shut_ends end (Whole bytes writes holds) = absurd (unopened end bytes writes)
  shut_ends end (Cut due bytes writes is rose front) = absurd (well.sink_kept rose)
  shut_ends end (Fails is breaks silent) = absurd (well.disk_kept breaks)
  shut_ends end (Wants is lacks silent) = inr (ap status_of is)

  -- the archive that was opened is the one that the history leads to
  one_archive : (end : LinkEnd) (c : Converses seen disk end) → c.archive ≡ a
  one_archive end c =
      let same : c.history ≡ history = one_history disk.before c.history history c.archive a c.leads leads (c.carried honest).0 carried.0 (c.carried honest).1 carried.1 in
      leads_once history c.archive a (subst (λ (h : List Entry). LeadsTo h c.archive) same c.leads) leads

  pub went : (end : Ending) → Sessions seen disk end → IsDoneBy a seen given (status_of end)
  went end (Unopened shut) = shut_ends end shut.ends
  went end (Opened link is c) =
      subst (λ (e : Ending). IsDoneBy a seen given (status_of e)) (sym is)
      (ended c.archive c.history c.faults link c.later (one_archive link c) c.ended)

pub session_completes : (disk : OnDisk) → SessionCompletes disk
session_completes disk words seen status history a text given rest (inl usage) is leads carried honest well unfailing input = absurd (usage.1.none.no_session is)
session_completes disk words seen status history a text given rest (inr ran) is leads carried honest well unfailing input =
    subst (IsDoneBy a seen given) (sym ran.1)
    (went disk seen history a text given rest leads carried honest well unfailing input ran.0 (by_session words seen disk ran.0 ran.2 is))
