-- What is known of an archive that an entry made.
use Rattle.std.proofs.Common.{◌≡◌, ℕ, ◌+◌, Bool, true, false, not, ◌⊎◌, inl, inr, List, [], ◌∷◌, Option, Some, None, Result, refl, sym, ap, ◌∙◌, subst}
use Rattle.std.specs.Prelude.{Ok, Err, length, nat_lt, ◌==◌, option_map, if◌then◌else◌}
use Rattle.cite_schema.specs.Headings.{Heading}
use Rattle.cite_schema.specs.Metadata.{meta_fault}
use Rattle.cite_schema.specs.Tests.{demand, unless, given}
use Rattle.cite_schema.specs.declared.value.Value.{Value}
use Rattle.cite_schema.specs.declared.line.Line.{Line}
use Rattle.cite_schema.specs.declared.step.Step.{Step}
use Rattle.cite_schema.specs.declared.batch_ask.BatchAsk.{BatchAsk}
use Rattle.cite_schema.specs.declared.query.CiteAsk.{CiteAsk}
use Rattle.cite_schema.proofs.Results.{demanded, unfaulted, gave}
use Rattle.subset_query.specs.Checks.{query_fault}
use Rattle.migration.specs.Columns.{carry_schema}
use Rattle.versioned_rows.specs.Changes.{after_lines}
use Rattle.entry_codec.specs.declared.entry.Entry.{Entry}
use Rattle.entry_codec.specs.Payloads.{payload}
use Rattle.batches.specs.Bodies.{is_word, lines_of}
use Rattle.sha2.specs.Sha256.{sha256}
use Rattle.archive_model.specs.declared.answers.Refused.{Refused}
use Rattle.archive_model.specs.declared.answers.Refused.TheVariants as refusals
use Rattle.archive_model.specs.declared.answers.Stored.{Stored}
use Rattle.archive_model.specs.declared.answers.Cited.{Cited}
use Rattle.archive_model.specs.declared.answers.Moved.{Moved}
use Rattle.archive_model.specs.Archives.{Archive, Minted, columns_of, version_count}
use Rattle.archive_model.specs.Limits.{Counted, KeptRows, Versions, Citations, Weight, JournalBytes, clock_end}
use Rattle.archive_model.specs.Outcomes.{Outcome, refuses, repeats, makes, RefusedOr, over}
use Rattle.archive_model.specs.Batching.{batch_of, batch_entry, with_batch, new_batch, by_number, batch_step}
use Rattle.archive_model.specs.Citing.{cite_entry, with_citation, new_citation, IsRepeat, IsMinting, too_large, IsAnswered, CiteStep}
use Rattle.archive_model.specs.Migrating.{migrate_entry, with_migration, overflow, new_migration, IsMigrated, NamesHarmed, AreVerified, MigrateStep}
use Rattle.archive_model.specs.Histories.{MakesBy}

-- where an outcome has an entry, the archive was made
made_ok : {R : Type 0} (a : Archive) (entry : Entry) (reply : R) (r : Result Archive Refused) (e : Entry) → (makes a entry reply r).entry ≡ Some e → r ≡ Ok (makes a entry reply r).after
made_ok a entry reply (Ok next) e h = refl
made_ok a entry reply (Err x) e h = absurd (cc)

-- likewise of an outcome that is one that makes
pub made : {R : Type 0} (o : Outcome R) (a : Archive) (entry : Entry) (reply : R) (r : Result Archive Refused) (e : Entry) (b : Archive) → o ≡ makes a entry reply r → MakesBy o e b → r ≡ Ok b
made {R} o a entry reply r e b is m =
    made_ok a entry reply r e (ap (λ (w : Outcome R). w.entry) (sym is) ∙ m.entry_is)
    ∙ ap Ok (ap (λ (w : Outcome R). w.after) (sym is) ∙ m.after_is)

made_that : {R : Type 0} (a : Archive) (entry : Entry) (reply : R) (r : Result Archive Refused) (e : Entry) → (makes a entry reply r).entry ≡ Some e → entry ≡ e
made_that a entry reply (Ok next) e h = cc
made_that a entry reply (Err x) e h = absurd (cc)

-- and the entry is that one
pub made_entry : {R : Type 0} (o : Outcome R) (a : Archive) (entry : Entry) (reply : R) (r : Result Archive Refused) (e : Entry) (b : Archive) → o ≡ makes a entry reply r → MakesBy o e b → entry ≡ e
made_entry {R} o a entry reply r e b is m = made_that a entry reply r e (ap (λ (w : Outcome R). w.entry) (sym is) ∙ m.entry_is)

-- a refusal and a repeat have no entry
pub not_refused : {R : Type 0} (o : Outcome R) (a : Archive) (x : Refused) (e : Entry) (b : Archive) → o ≡ refuses a x → MakesBy o e b → ⊥
not_refused {R} o a x e b is m = let c : None ≡ Some e = ap (λ (w : Outcome R). w.entry) (sym is) ∙ m.entry_is in absurd (cc)

pub not_repeated : {R : Type 0} (o : Outcome R) (a : Archive) (reply : R) (e : Entry) (b : Archive) → o ≡ repeats a reply → MakesBy o e b → ⊥
not_repeated {R} o a reply e b is m = let c : None ≡ Some e = ap (λ (w : Outcome R). w.entry) (sym is) ∙ m.entry_is in absurd (cc)

-- where there is an entry, what follows decided
pub undecided : {R : Type 0} (a : Archive) (r : Option Refused) (o : Outcome R) (e : Entry) (b : Archive) (Rest : Type 0) → RefusedOr a r o Rest → MakesBy o e b → Rest
undecided a None o e b Rest h m = h
undecided a (Some x) o e b Rest h m = absurd (not_refused o a x e b h m)

-- and there was no refusal
pub unrefused : {R : Type 0} (a : Archive) (r : Option Refused) (o : Outcome R) (e : Entry) (b : Archive) (Rest : Type 0) → RefusedOr a r o Rest → MakesBy o e b → r ≡ None
unrefused a None o e b Rest h m = refl
unrefused a (Some x) o e b Rest h m = absurd (not_refused o a x e b h m)

-- where there is an entry, the number was not used
fresh_made : (a : Archive) (ask : BatchAsk) (u : Option (ℕ × List ℕ)) (fresh : Outcome Stored) (e : Entry) (b : Archive) → MakesBy (by_number a ask u fresh) e b → MakesBy fresh e b
fresh_made a ask None fresh e b m = m
fresh_made a ask (Some u) fresh e b m = by (is_word u.1 (sha256 ask.body)) m
  where
    by : (same : Bool) → MakesBy {R = Stored} (if same then repeats a (record { version = u.0; new = false }) else refuses a (refusals.NumberUsed u.0)) e b → MakesBy fresh e b
    by true m = absurd (not_repeated _ a (record { version = u.0; new = false }) e b refl m)
    by false m = absurd (not_refused _ a (refusals.NumberUsed u.0) e b refl m)

-- a batch made the archive
pub record IsBatched (a : Archive) (ask : BatchAsk) (now : ℕ) (e : Entry) (b : Archive) : Type 0 where
  pub entry_is : batch_entry a ask now ≡ e
  pub lines : List Line
  pub lines_are : lines_of (columns_of a) ask.body ≡ Ok lines
  pub table : List (List Value)
  pub table_is : after_lines 1 lines a.last.table ≡ Ok table
  pub room : over (with_batch a ask now lines table) (Versions ∷ KeptRows ∷ Weight ∷ JournalBytes ∷ []) ≡ None
  pub moment : nat_lt now clock_end ≡ true
  pub is : with_batch a ask now lines table ≡ b

new_batched : (a : Archive) (ask : BatchAsk) (now : ℕ) (entry : Entry) (b : Archive) → batch_entry a ask now ≡ entry → new_batch a ask now ≡ Ok b → IsBatched a ask now entry b
new_batched a ask now entry b same e =
    let (number, e1) = demanded (ask.schema == a.last.schema.number) _ _ b e in
    let (lines, are, e2) = gave (lines_of (columns_of a) ask.body) refusals.Body _ b e1 in
    let (table, is, e3) = gave (after_lines 1 lines a.last.table) refusals.Lines _ b e2 in
    let (room, e4) = unfaulted (over (with_batch a ask now lines table) (Versions ∷ KeptRows ∷ Weight ∷ JournalBytes ∷ [])) _ b e3 in
    let (moment, e5) = demanded (nat_lt now clock_end) (refusals.ClockRange now) (Ok (with_batch a ask now lines table)) b e4 in
    record { entry_is = same; lines = lines; lines_are = are; table = table; table_is = is; room = room; moment = moment; is = cc }

pub batched : (a : Archive) (ask : BatchAsk) (now : ℕ) (e : Entry) (b : Archive) → MakesBy (batch_step a ask now) e b → IsBatched a ask now e b
batched a ask now e b m =
    let reply : Stored = record { version = version_count a + 1; new = true } in
    let fresh = makes a (batch_entry a ask now) reply (new_batch a ask now) in
    let n = fresh_made a ask (batch_of ask.curator ask.number a.last a.older) fresh e b m in
    new_batched a ask now e b (made_entry fresh a (batch_entry a ask now) reply (new_batch a ask now) e b refl n) (made fresh a (batch_entry a ask now) reply (new_batch a ask now) e b refl n)

-- a citation made the archive
pub record IsCited (a : Archive) (ask : CiteAsk) (now : ℕ) (o : Outcome Cited) (e : Entry) (b : Archive) : Type 0 where
  pub answered : IsAnswered a ask now o
  pub small : too_large answered.bytes ≡ None
  pub minting : IsMinting a ask now answered.bytes o
  pub entry_is : cite_entry a ask now answered.bytes ≡ e
  pub room : over (with_citation a ask now answered.bytes minting.form) (Citations ∷ JournalBytes ∷ []) ≡ None
  pub moment : nat_lt now clock_end ≡ true
  pub is : with_citation a ask now answered.bytes minting.form ≡ b

minting_of : (a : Archive) (ask : CiteAsk) (now : ℕ) (o : Outcome Cited) (bytes : List ℕ) (e : Entry) (b : Archive) → IsRepeat a ask bytes o ⊎ IsMinting a ask now bytes o → MakesBy o e b → IsMinting a ask now bytes o
minting_of a ask now o bytes e b (inl r) m = absurd (not_repeated o a (record { number = r.place + 1; new = false }) e b r.outcome m)
minting_of a ask now o bytes e b (inr n) m = n

pub cited : (a : Archive) (ask : CiteAsk) (now : ℕ) (o : Outcome Cited) (e : Entry) (b : Archive) → CiteStep a ask now o → MakesBy o e b → IsCited a ask now o e b
cited a ask now o e b s m =
    let s1 = undecided a (option_map refusals.Query (query_fault (columns_of a) ask.query)) o e b _ s m in
    let answered = undecided a (option_map refusals.BadMeta (meta_fault ask.meta)) o e b (IsAnswered a ask now o) s1 m in
    let bytes = answered.bytes in
    let minting = minting_of a ask now o bytes e b (undecided a (too_large bytes) o e b _ answered.decided m) m in
    let next = with_citation a ask now bytes minting.form in
    let reply : Cited = record { number = length a.minted + 1; new = true } in
    let e0 = made o a (cite_entry a ask now bytes) reply (new_citation a ask now bytes minting.form) e b minting.outcome m in
    let (small, e1) = demanded (not (nat_lt 16777216 (length (payload (cite_entry a ask now bytes))))) _ _ b e0 in
    let (room, e2) = unfaulted (over next (Citations ∷ JournalBytes ∷ [])) _ b e1 in
    let (moment, e3) = demanded (nat_lt now clock_end) (refusals.ClockRange now) (Ok next) b e2 in
    record { answered = answered; small = unrefused a (too_large bytes) o e b _ answered.decided m; minting = minting; entry_is = made_entry o a (cite_entry a ask now bytes) reply (new_citation a ask now bytes minting.form) e b minting.outcome m; room = room; moment = moment; is = cc }

-- a migration made the archive
pub record IsMoved (a : Archive) (steps : List Step) (now : ℕ) (o : Outcome Moved) (e : Entry) (b : Archive) : Type 0 where
  pub entry_is : migrate_entry a steps now ≡ e
  pub schema : Heading
  pub schema_is : carry_schema a.last.schema steps ≡ Ok schema
  pub few : over (with_migration a schema steps now) (Versions ∷ []) ≡ None
  pub none_lost : overflow a steps ≡ None
  pub room : over (with_migration a schema steps now) (Weight ∷ JournalBytes ∷ []) ≡ None
  pub verdict : IsMigrated a steps now (with_migration a schema steps now) o
  pub moment : nat_lt now clock_end ≡ true
  pub is : record (with_migration a schema steps now) { minted = verdict.minted } ≡ b

moved_by : (a : Archive) (steps : List Step) (now : ℕ) (o : Outcome Moved) (e : Entry) (b next : Archive) → NamesHarmed a steps o ⊎ IsMigrated a steps now next o → MakesBy o e b → IsMigrated a steps now next o
moved_by a steps now o e b next (inl h) m = absurd (not_refused o a (refusals.CitedSubset (h.place + 1)) e b h.outcome m)
moved_by a steps now o e b next (inr h) m = h

-- what was not refused before the citations were looked at
verified : (a : Archive) (steps : List Step) (now : ℕ) (o : Outcome Moved) (e : Entry) (b : Archive) (r : Result Archive Refused) → AreVerified a steps now r o → MakesBy o e b
    → (next : Archive) × (r ≡ Ok next) × IsMigrated a steps now next o
verified a steps now o e b (Err x) h m = absurd (not_refused o a x e b h m)
verified a steps now o e b (Ok next) h m = (next, refl, moved_by a steps now o e b next h m)

pub moved : (a : Archive) (schema : ℕ) (steps : List Step) (now : ℕ) (o : Outcome Moved) (e : Entry) (b : Archive) → MigrateStep a schema steps now o → MakesBy o e b → IsMoved a steps now o e b
moved a schema steps now o e b s m =
    let (next, are, verdict) = verified a steps now o e b (new_migration a schema steps now) s m in
    let (number, e1) = demanded (schema == a.last.schema.number) _ _ next are in
    let (carried, is, e2) = gave (carry_schema a.last.schema steps) refusals.Steps _ next e1 in
    let (few, e3) = unfaulted (over (with_migration a carried steps now) (Versions ∷ [])) _ next e2 in
    let (none, e4) = unfaulted (overflow a steps) _ next e3 in
    let (room, e5) = unfaulted (over (with_migration a carried steps now) (Weight ∷ JournalBytes ∷ [])) (Ok (with_migration a carried steps now)) next e4 in
    let same : next ≡ with_migration a carried steps now = cc in
    let own : IsMigrated a steps now (with_migration a carried steps now) o = subst (λ w. IsMigrated a steps now w o) same verdict in
    let reply : Moved = record { schema = (with_migration a carried steps now).last.schema.number; version = version_count (with_migration a carried steps now) } in
    let e6 = made o a (migrate_entry a steps now) reply (demand (nat_lt now clock_end) (refusals.ClockRange now) (Ok (record (with_migration a carried steps now) { minted = own.minted }))) e b own.outcome m in
    let (moment, e7) = demanded (nat_lt now clock_end) (refusals.ClockRange now) (Ok (record (with_migration a carried steps now) { minted = own.minted })) b e6 in
    record { entry_is = made_entry o a (migrate_entry a steps now) reply (demand (nat_lt now clock_end) (refusals.ClockRange now) (Ok (record (with_migration a carried steps now) { minted = own.minted }))) e b own.outcome m; schema = carried; schema_is = is; few = few; none_lost = none; room = room; verdict = own; moment = moment; is = cc }
