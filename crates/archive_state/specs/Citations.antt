-- What is planned for a citation, part by part.
use Rattle.std.specs.Prelude.{◌≡◌, ◌≤◌, ℕ, ◌+◌, List, [], ◌∷◌, ◌++◌, Option, Some, None, Result, Ok, Err, length, ⊤}
use Rattle.std.specs.Prelude.{true, not, nat_lt, option_map}
use Rattle.std.specs.List.{AllByRecursion}
use Rattle.sha2.specs.Sha256.{sha256}
use Rattle.cite_schema.specs.Tests.{demand, unless}
use Rattle.subset_query.specs.Printed.{printed_form}
use Rattle.archive_model.specs.Limits.{Citations, JournalBytes, clock_end}
use Rattle.query_store.specs.declared.citation.Citation.{Citation}
use Rattle.archive_state.specs.declared.snapshot.Snapshot.{Snapshot}
use Rattle.archive_state.specs.Limiting.{amount, passed}
use Rattle.cite_schema.specs.Answers.{Gives, Alike}
use Rattle.cite_schema.specs.Queries.{asked}
use Rattle.cite_schema.specs.Metadata.{meta_fault}
use Rattle.cite_schema.specs.declared.value.Value.{Value}
use Rattle.cite_schema.specs.declared.schema.Column.{Column}
use Rattle.cite_schema.specs.declared.query.CiteAsk.{CiteAsk}
use Rattle.subset_query.specs.declared.form.Normal.{Normal}
use Rattle.subset_query.specs.Forms.{formed, IsSettled}
use Rattle.subset_query.specs.Checks.{query_fault}
use Rattle.entry_codec.specs.declared.entry.Entry.{Entry}
use Rattle.entry_codec.specs.Payloads.{payload}
use Rattle.entry_codec.specs.Spellable.{FitsEntry}
use Rattle.archive_model.specs.declared.answers.Cited.{Cited}
use Rattle.archive_model.specs.declared.answers.Refused.{Refused}
use Rattle.archive_model.specs.declared.answers.Refused.TheVariants as refusals
use Rattle.archive_model.specs.Archives.{Archive, Minted}
use Rattle.archive_model.specs.Citing.{IsFirst, cite_entry, new_citation}
use Rattle.archive_state.specs.declared.plan.Made.{Made}
use Rattle.archive_state.specs.Executing.{IsOver, minted_as}
use Rattle.archive_state.specs.Standing.{Agrees}

-- the query and the metadata break no rule, and this is the settled form of the query
pub record IsFormOf (columns : List Column) (ask : CiteAsk) (form : Normal) : Type 0 where
  pub checked : query_fault columns ask.query ≡ None
  pub told : meta_fault ask.meta ≡ None
  pub settled : IsSettled columns form
  pub alike : Alike columns (asked columns ask.query) (formed form)

-- the form of a request, or the first rule that it breaks; or memory was wanting
abbrev pub TellsForm : List Column → CiteAsk → Result Normal Refused → Type 0
TellsForm columns ask (Ok form) = IsFormOf columns ask form
TellsForm columns ask (Err (refusals.Query fault)) = query_fault columns ask.query ≡ Some fault
TellsForm columns ask (Err (refusals.BadMeta part)) = (query_fault columns ask.query ≡ None) × (meta_fault ask.meta ≡ Some part)
TellsForm columns ask (Err refusals.NoMemory) = ⊤
TellsForm columns ask (Err refusal) = ⊥

-- the bytes that a form gives on a table, or how many too many there are; or memory was wanting
abbrev pub TellsBytes : Normal → List (List Value) → Result (List ℕ) Refused → Type 0
TellsBytes form table (Ok bytes) = Gives (formed form) table bytes × (length bytes ≤ 67108864)
TellsBytes form table (Err (refusals.ResultTooLarge size)) = IsOver (formed form) table size
TellsBytes form table (Err refusals.NoMemory) = ⊤
TellsBytes form table (Err refusal) = ⊥

-- the citation has the form and gave the bytes
abbrev pub Has : Normal → List ℕ → Minted → Type 0
Has form bytes m = (m.form ≡ form) × (m.bytes ≡ bytes)

-- it has not
abbrev pub Lacks : Normal → List ℕ → Minted → Type 0
Lacks form bytes m = Has form bytes m → ⊥

-- the number of the first citation that has the form and gave the bytes; none where no citation has
abbrev pub TellsFirst : Normal → List ℕ → List Minted → Option ℕ → Type 0
TellsFirst form bytes minted (Some number) = (place : ℕ) × (number ≡ place + 1) × IsFirst (Lacks form bytes) (Has form bytes) minted place
TellsFirst form bytes minted None = AllByRecursion (Lacks form bytes) minted

-- the archive after a citation, and what is kept of it, its payload and the reply
pub record PlansMinted (a : Archive) (ask : CiteAsk) (now : ℕ) (bytes : List ℕ) (form : Normal) (history : List Entry) (m : Made Cited) : Type 0 where
  pub next : Archive
  pub makes : new_citation a ask now bytes form ≡ Ok next
  pub reply_is : m.reply ≡ record { number = length a.minted + 1; new = true }
  pub payload_is : m.payload ≡ payload (cite_entry a ask now bytes)
  pub fits : FitsEntry (cite_entry a ask now bytes)
  pub stands : Agrees m.next (history ++ cite_entry a ask now bytes ∷ []) next

-- the plan of a citation that no other one fits, or the first rule that it breaks; or memory was wanting
abbrev pub PlansCitation : Archive → CiteAsk → ℕ → List ℕ → Normal → List Entry → Result (Made Cited) Refused → Type 0
PlansCitation a ask now bytes form history (Ok made) = PlansMinted a ask now bytes form history made
PlansCitation a ask now bytes form history (Err refusals.NoMemory) = ⊤
PlansCitation a ask now bytes form history (Err refusal) = new_citation a ask now bytes form ≡ Err refusal

-- the citation with the number gave the bytes
abbrev pub Gave : Archive → ℕ → List ℕ → Type 0
Gave a number bytes = (m : Minted) × (minted_as a number ≡ Some m) × (m.bytes ≡ bytes)

-- the first rule that an entry breaks which is to be made a citation with a number
abbrev pub rule_broken : Entry → (number journal now : ℕ) → Result ⊤ Refused
rule_broken entry number journal now =
    demand (not (nat_lt 16777216 (length (payload entry)))) (refusals.EntryTooLarge (length (payload entry))) (
    unless (option_map (λ l. refusals.Full l) (passed (amount 0 0 0 number journal) (Citations ∷ JournalBytes ∷ []))) (
    demand (nat_lt now clock_end) (refusals.ClockRange now) (
    Ok tt)))

-- the entry breaks none, or it is the first that it breaks; or memory was wanting
abbrev pub Judges : Entry → (number journal now : ℕ) → Result ⊤ Refused → Type 0
Judges entry number journal now (Err refusals.NoMemory) = ⊤
Judges entry number journal now result = result ≡ rule_broken entry number journal now

-- what is kept of a new citation
abbrev pub citation_for : Snapshot → CiteAsk → Normal → (stamp : ℕ) → (fingerprint : List ℕ) → Citation
citation_for s ask form stamp fingerprint = record {
  issue = record { number = length s.store + 1; version = s.rows.last; cited = stamp; updated = s.updated; meta = ask.meta };
  asked = ask.query;
  normal = form;
  query_sha = sha256 (printed_form form);
  result_sha = fingerprint;
}
