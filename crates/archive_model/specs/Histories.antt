-- Legal histories, and the archives to which they lead.
use Rattle.std.specs.Prelude.{◌≡◌, ◌≤◌, ◌<◌, ◌^◌, ℕ, ◌+◌, Bool, not, IsTrue, List, [], ◌∷◌, Option, Some, None, option_map, Result, Ok, Err, length, nat_lt, if◌then◌else◌}
use Rattle.std.specs.Option.{option_or}
use Rattle.cite_schema.specs.Headings.{heading_fault}
use Rattle.cite_schema.specs.Metadata.{is_plain_within}
use Rattle.cite_schema.specs.declared.schema.Column.{Column}
use Rattle.cite_schema.specs.declared.dataset.Dataset.{Dataset}
use Rattle.cite_schema.specs.declared.batch_ask.BatchAsk.{BatchAsk}
use Rattle.cite_schema.specs.declared.query.CiteAsk.{CiteAsk}
use Rattle.entry_codec.specs.declared.entry.FoundEntry.{FoundEntry}
use Rattle.entry_codec.specs.declared.entry.BatchEntry.{BatchEntry}
use Rattle.entry_codec.specs.declared.entry.CiteEntry.{CiteEntry}
use Rattle.entry_codec.specs.declared.entry.Entry.{Entry}
use Rattle.entry_codec.specs.declared.entry.Entry.TheVariants.{Found, Batch, Cite, Migrate}
use Rattle.entry_codec.specs.Payloads.{record_length}
use Rattle.batches.specs.Curators.{is_curator}
use Rattle.identifiers.specs.Prefixes.{is_prefix}
use Rattle.archive_model.specs.declared.answers.FoundFault.{FoundFault}
use Rattle.archive_model.specs.declared.answers.FoundFault.TheVariants.{BadPrefix, BadMeta, Schema, ClockRange}
use Rattle.archive_model.specs.declared.answers.Cited.{Cited}
use Rattle.archive_model.specs.declared.answers.Moved.{Moved}
use Rattle.archive_model.specs.Archives.{Archive, ByFounding}
use Rattle.archive_model.specs.Limits.{clock_end}
use Rattle.archive_model.specs.Outcomes.{Outcome}
use Rattle.archive_model.specs.Batching.{batch_step}
use Rattle.archive_model.specs.Citing.{CiteStep}
use Rattle.archive_model.specs.Migrating.{MigrateStep}

-- a plain text of 1 to 1,024 bytes is told of a data set
abbrev pub is_told : List ℕ → Bool
is_told = is_plain_within 1 1024

-- the first rule that a founding breaks
abbrev pub found_fault : Dataset → List Column → ℕ → Option FoundFault
found_fault dataset columns now =
    if not (is_prefix dataset.prefix) then Some BadPrefix
    else (if not (is_told dataset.publisher) then Some (BadMeta 4)
    else (if not (is_told dataset.creator) then Some (BadMeta 1)
    else (if not (is_told dataset.title) then Some (BadMeta 2)
    else option_or (option_map Schema (heading_fault columns)) (if nat_lt now clock_end then None else Some (ClockRange now)))))

-- how many bytes a journal has before its records, and the gate behind them
abbrev pub journal_frame : ℕ
journal_frame = 17

-- the archive that a founding makes: the empty table of schema 1
abbrev pub founded : FoundEntry → Archive
founded f = record {
  dataset = f.dataset;
  last = record { schema = record { number = 1; columns = f.columns }; table = []; stamp = f.stamp; maker = ByFounding };
  older = [];
  minted = [];
  stamp = f.stamp;
  journal = journal_frame + record_length (Found f);
}

-- what the entry of a batch asked
abbrev pub batch_ask : BatchEntry → BatchAsk
batch_ask e = record { schema = e.schema; curator = e.curator; number = e.number; body = e.body }

-- what the entry of a citation asked
abbrev pub cite_ask : CiteEntry → CiteAsk
cite_ask e = record { query = e.query; meta = e.meta }

-- what must be known before a batch is asked for
pub record MayBeAsked (ask : BatchAsk) : Type 0 where
  pub curator : IsTrue (is_curator ask.curator)
  pub least : 1 ≤ ask.number
  pub most : ask.number < 2 ^ 32
  pub body : length ask.body ≤ 8388608

-- the outcome makes the entry, and leaves the archive
pub record MakesBy {R : Type 0} (o : Outcome R) (entry : Entry) (b : Archive) : Type 0 where
  pub entry_is : o.entry ≡ Some entry
  pub after_is : o.after ≡ b

-- the entry is exactly what the archive makes of the entry's own request and stamp, and this is the archive after it
abbrev pub Makes : Archive → Entry → Archive → Type 0
Makes a (Found e) b = ⊥
Makes a (Batch e) b = MayBeAsked (batch_ask e) × MakesBy (batch_step a (batch_ask e) e.stamp) (Batch e) b
Makes a (Cite e) b = (o : Outcome Cited) × CiteStep a (cite_ask e) e.stamp o × MakesBy o (Cite e) b
Makes a (Migrate e) b = (o : Outcome Moved) × MigrateStep a e.schema e.steps e.stamp o × MakesBy o (Migrate e) b

-- entries lead from one archive to another, one after the other
abbrev pub Runs : Archive → List Entry → Archive → Type 0
Runs a [] b = a ≡ b
Runs a (e ∷ es) b = (next : Archive) × Makes a e next × Runs next es b

-- the history is legal and leads to the archive: a founding that keeps its rules, and entries that the archive makes
abbrev pub LeadsTo : List Entry → Archive → Type 0
LeadsTo [] a = ⊥
LeadsTo (Found f ∷ es) a = (found_fault f.dataset f.columns f.stamp ≡ None) × Runs (founded f) es a
LeadsTo (Batch e ∷ es) a = ⊥
LeadsTo (Cite e ∷ es) a = ⊥
LeadsTo (Migrate e ∷ es) a = ⊥

-- how many bytes the records of entries take
abbrev pub records_length : List Entry → ℕ
records_length [] = 0
records_length (e ∷ es) = record_length e + records_length es

-- how many bytes the journal of a history has
abbrev pub journal_length : List Entry → ℕ
journal_length entries = journal_frame + records_length entries
