-- No step of an archive refuses a call because of a disk.
use Rattle.std.proofs.Common.{◌≡◌, ℕ, ◌+◌, Bool, true, false, ◌⊎◌, inl, inr, List, [], ◌∷◌, Option, Some, None, Result, sym, subst}
use Rattle.std.specs.Prelude.{Ok, Err, ⊤, length, not, nat_lt, option_map, ◌==◌, if◌then◌else◌}
use Rattle.cite_schema.specs.Metadata.{meta_fault}
use Rattle.cite_schema.specs.Tests.{demand, unless, given}
use Rattle.cite_schema.specs.declared.value.Value.{Value}
use Rattle.cite_schema.specs.declared.step.Step.{Step}
use Rattle.cite_schema.specs.declared.batch_ask.BatchAsk.{BatchAsk}
use Rattle.cite_schema.specs.declared.query.CiteAsk.{CiteAsk}
use Rattle.subset_query.specs.declared.form.Normal.{Normal}
use Rattle.subset_query.specs.Checks.{query_fault}
use Rattle.migration.specs.Columns.{carry_schema}
use Rattle.batches.specs.Bodies.{lines_of}
use Rattle.versioned_rows.specs.Changes.{after_lines}
use Rattle.entry_codec.specs.declared.entry.Entry.{Entry}
use Rattle.entry_codec.specs.Payloads.{payload}
use Rattle.archive_model.specs.declared.answers.Stored.{Stored}
use Rattle.archive_model.specs.declared.answers.Cited.{Cited}
use Rattle.archive_model.specs.declared.answers.Moved.{Moved}
use Rattle.archive_model.specs.declared.answers.Refused.{Refused}
use Rattle.archive_model.specs.declared.answers.Refused.TheVariants as refusals
use Rattle.archive_model.specs.Archives.{Archive, columns_of, version_count}
use Rattle.archive_model.specs.Limits.{Counted, KeptRows, Versions, Citations, Weight, JournalBytes, limit_number, first_over, result_limit, clock_end}
use Rattle.archive_model.specs.Outcomes.{Outcome, refuses, repeats, makes, over, RefusedOr}
use Rattle.archive_model.specs.Batching.{batch_of, batch_entry, with_batch, new_batch, by_number, batch_step}
use Rattle.archive_model.specs.Citing.{cite_entry, with_citation, new_citation, too_large, IsRepeat, IsMinting, IsAnswered, CiteStep}
use Rattle.archive_model.specs.Migrating.{migrate_entry, with_migration, overflow, new_migration, NamesHarmed, IsMigrated, AreVerified, MigrateStep}

-- the refusal is another
abbrev IsOther : Refused → Type 0
IsOther refusals.DiskFailed = ⊥
IsOther refusal = ⊤

-- there is none, or another
abbrev MayBeOther : Option Refused → Type 0
MayBeOther None = ⊤
MayBeOther (Some refusal) = IsOther refusal

-- the result is none, or another
abbrev NoDisk : {A : Type 0} → Result A Refused → Type 0
NoDisk (Ok x) = ⊤
NoDisk (Err refusal) = IsOther refusal

demand_other : {A : Type 0} (b : Bool) (fault : Refused) (rest : Result A Refused) → IsOther fault → NoDisk rest → NoDisk (demand b fault rest)
demand_other true fault rest other more = more
demand_other false fault rest other more = other

unless_other : {A : Type 0} (o : Option Refused) (rest : Result A Refused) → MayBeOther o → NoDisk rest → NoDisk (unless o rest)
unless_other None rest other more = more
unless_other (Some fault) rest other more = other

given_other : {A B F : Type 0} (r : Result B F) (told : F → Refused) (rest : B → Result A Refused) → ((f : F) → IsOther (told f)) → ((x : B) → NoDisk (rest x)) → NoDisk (given r told rest)
given_other (Ok x) told rest other more = more x
given_other (Err f) told rest other more = other f

mapped_other : {X : Type 0} (told : X → Refused) → ((x : X) → IsOther (told x)) → (o : Option X) → MayBeOther (option_map told o)
mapped_other told other None = tt
mapped_other told other (Some x) = other x

over_other : (a : Archive) (counts : List Counted) → MayBeOther (over a counts)
over_other a counts = mapped_other (λ (c : Counted). refusals.Full (limit_number c)) (λ c. tt) (first_over a counts)

makes_other : {R : Type 0} (a : Archive) (entry : Entry) (reply : R) (r : Result Archive Refused) → NoDisk r → NoDisk (makes a entry reply r).reply
makes_other a entry reply (Ok next) other = tt
makes_other a entry reply (Err refusal) other = other

refused_other : {R : Type 0} (a : Archive) (r : Option Refused) (o : Outcome R) (Rest : Type 0) → MayBeOther r → (Rest → NoDisk o.reply) → RefusedOr a r o Rest → NoDisk o.reply
refused_other a None o Rest other more h = more h
refused_other {R} a (Some refusal) o Rest other more h = subst (λ (p : Outcome R). NoDisk p.reply) (sym h) other

-- ---- batches

new_batch_other : (a : Archive) (ask : BatchAsk) (now : ℕ) → NoDisk (new_batch a ask now)
new_batch_other a ask now =
    demand_other (ask.schema == a.last.schema.number) (refusals.WrongSchema a.last.schema.number) _ tt
    (given_other (lines_of (columns_of a) ask.body) refusals.Body _ (λ f. tt) (λ lines.
    given_other (after_lines 1 lines a.last.table) refusals.Lines _ (λ f. tt) (λ table.
    unless_other (over (with_batch a ask now lines table) (Versions ∷ KeptRows ∷ Weight ∷ JournalBytes ∷ [])) _ (over_other (with_batch a ask now lines table) (Versions ∷ KeptRows ∷ Weight ∷ JournalBytes ∷ []))
    (demand_other (nat_lt now clock_end) (refusals.ClockRange now) (Ok (with_batch a ask now lines table)) tt tt))))

either_other : (b : Bool) (o p : Outcome Stored) → NoDisk o.reply → NoDisk p.reply → NoDisk (if b then o else p).reply
either_other true o p first second = first
either_other false o p first second = second

by_number_other : (a : Archive) (ask : BatchAsk) (used : Option (ℕ × List ℕ)) (fresh : Outcome Stored) → NoDisk fresh.reply → NoDisk (by_number a ask used fresh).reply
by_number_other a ask None fresh other = other
by_number_other a ask (Some used) fresh other = either_other _ (repeats a (record { version = used.0; new = false })) (refuses a (refusals.NumberUsed used.0)) tt tt

batch_other : (a : Archive) (ask : BatchAsk) (now : ℕ) → NoDisk (batch_step a ask now).reply
batch_other a ask now =
    let stored : Stored = record { version = version_count a + 1; new = true } in
    by_number_other a ask (batch_of ask.curator ask.number a.last a.older) (makes a (batch_entry a ask now) stored (new_batch a ask now))
    (makes_other a (batch_entry a ask now) stored (new_batch a ask now) (new_batch_other a ask now))

pub batch_never : (a : Archive) (ask : BatchAsk) (now : ℕ) → refuses {R = Stored} a refusals.DiskFailed ≡ batch_step a ask now → ⊥
batch_never a ask now e = subst (λ (o : Outcome Stored). NoDisk o.reply) (sym e) (batch_other a ask now)

-- ---- citations

new_citation_other : (a : Archive) (ask : CiteAsk) (now : ℕ) (bytes : List ℕ) (form : Normal) → NoDisk (new_citation a ask now bytes form)
new_citation_other a ask now bytes form =
    demand_other (not (nat_lt 16777216 (length (payload (cite_entry a ask now bytes))))) (refusals.EntryTooLarge (length (payload (cite_entry a ask now bytes)))) _ tt
    (unless_other (over (with_citation a ask now bytes form) (Citations ∷ JournalBytes ∷ [])) _ (over_other (with_citation a ask now bytes form) (Citations ∷ JournalBytes ∷ []))
    (demand_other (nat_lt now clock_end) (refusals.ClockRange now) (Ok (with_citation a ask now bytes form)) tt tt))

large_other : (bytes : List ℕ) → MayBeOther (too_large bytes)
large_other bytes = by (nat_lt result_limit (length bytes))
  where
    by : (b : Bool) → MayBeOther (if b then Some (refusals.ResultTooLarge (length bytes)) else None)
    by true = tt
    by false = tt

decided_other : (a : Archive) (ask : CiteAsk) (now : ℕ) (bytes : List ℕ) (o : Outcome Cited) → IsRepeat a ask bytes o ⊎ IsMinting a ask now bytes o → NoDisk o.reply
decided_other a ask now bytes o (inl r) = subst (λ (p : Outcome Cited). NoDisk p.reply) (sym r.outcome) tt
decided_other a ask now bytes o (inr m) =
    subst (λ (p : Outcome Cited). NoDisk p.reply) (sym m.outcome)
    (makes_other a (cite_entry a ask now bytes) (record { number = length a.minted + 1; new = true }) (new_citation a ask now bytes m.form) (new_citation_other a ask now bytes m.form))

answered_other : (a : Archive) (ask : CiteAsk) (now : ℕ) (o : Outcome Cited) → IsAnswered a ask now o → NoDisk o.reply
answered_other a ask now o h =
    refused_other a (too_large h.bytes) o (IsRepeat a ask h.bytes o ⊎ IsMinting a ask now h.bytes o) (large_other h.bytes) (decided_other a ask now h.bytes o) h.decided

cite_other : (a : Archive) (ask : CiteAsk) (now : ℕ) (o : Outcome Cited) → CiteStep a ask now o → NoDisk o.reply
cite_other a ask now o =
    refused_other a (option_map refusals.Query (query_fault (columns_of a) ask.query)) o (RefusedOr a (option_map refusals.BadMeta (meta_fault ask.meta)) o (IsAnswered a ask now o))
    (mapped_other refusals.Query (λ f. tt) (query_fault (columns_of a) ask.query))
    (refused_other a (option_map refusals.BadMeta (meta_fault ask.meta)) o (IsAnswered a ask now o) (mapped_other refusals.BadMeta (λ f. tt) (meta_fault ask.meta)) (answered_other a ask now o))

pub cite_never : (a : Archive) (ask : CiteAsk) (now : ℕ) → CiteStep a ask now (refuses a refusals.DiskFailed) → ⊥
cite_never a ask now step = cite_other a ask now (refuses a refusals.DiskFailed) step

-- ---- migrations

new_migration_other : (a : Archive) (schema : ℕ) (steps : List Step) (now : ℕ) → NoDisk (new_migration a schema steps now)
new_migration_other a schema steps now =
    demand_other (schema == a.last.schema.number) (refusals.WrongSchema a.last.schema.number) _ tt
    (given_other (carry_schema a.last.schema steps) refusals.Steps _ (λ f. tt) (λ carried.
    unless_other (over (with_migration a carried steps now) (Versions ∷ [])) _ (over_other (with_migration a carried steps now) (Versions ∷ []))
    (unless_other (overflow a steps) _ (mapped_other (λ (u : ℕ × Value). refusals.Overflow u.0 u.1) (λ u. tt) _)
    (unless_other (over (with_migration a carried steps now) (Weight ∷ JournalBytes ∷ [])) (Ok (with_migration a carried steps now)) (over_other (with_migration a carried steps now) (Weight ∷ JournalBytes ∷ [])) tt))))

moved_other : (a : Archive) (steps : List Step) (now : ℕ) (next : Archive) (o : Outcome Moved) → NamesHarmed a steps o ⊎ IsMigrated a steps now next o → NoDisk o.reply
moved_other a steps now next o (inl h) = subst (λ (p : Outcome Moved). NoDisk p.reply) (sym h.outcome) tt
moved_other a steps now next o (inr m) =
    let last : Result Archive Refused = demand (nat_lt now clock_end) (refusals.ClockRange now) (Ok (record next { minted = m.minted })) in
    subst (λ (p : Outcome Moved). NoDisk p.reply) (sym m.outcome)
    (makes_other a (migrate_entry a steps now) (record { schema = next.last.schema.number; version = version_count next }) last
    (demand_other (nat_lt now clock_end) (refusals.ClockRange now) (Ok (record next { minted = m.minted })) tt tt))

verified_other : (a : Archive) (steps : List Step) (now : ℕ) (r : Result Archive Refused) (o : Outcome Moved) → NoDisk r → AreVerified a steps now r o → NoDisk o.reply
verified_other a steps now (Err refusal) o other h = subst (λ (p : Outcome Moved). NoDisk p.reply) (sym h) other
verified_other a steps now (Ok next) o other h = moved_other a steps now next o h

pub migrate_never : (a : Archive) (schema : ℕ) (steps : List Step) (now : ℕ) → MigrateStep a schema steps now (refuses a refusals.DiskFailed) → ⊥
migrate_never a schema steps now step = verified_other a steps now (new_migration a schema steps now) (refuses a refusals.DiskFailed) (new_migration_other a schema steps now) step
