-- What a batch does to an archive.
use Rattle.std.specs.Prelude.{ℕ, ◌+◌, true, false, ◌&&◌, ◌==◌, List, [], ◌∷◌, Option, Some, None, Result, Ok, length, nat_lt, if◌then◌else◌}
use Rattle.std.specs.Option.{option_or}
use Rattle.sha2.specs.Sha256.{sha256}
use Rattle.cite_schema.specs.Tests.{demand, unless, given}
use Rattle.cite_schema.specs.declared.value.Value.{Value}
use Rattle.cite_schema.specs.declared.line.Line.{Line}
use Rattle.cite_schema.specs.declared.batch_ask.BatchAsk.{BatchAsk}
use Rattle.entry_codec.specs.declared.entry.Entry.{Entry}
use Rattle.entry_codec.specs.declared.entry.Entry.TheVariants as entries
use Rattle.batches.specs.Bodies.{is_word, lines_of}
use Rattle.versioned_rows.specs.Changes.{after_lines}
use Rattle.archive_model.specs.declared.answers.Stored.{Stored}
use Rattle.archive_model.specs.declared.answers.Refused.{Refused}
use Rattle.archive_model.specs.declared.answers.Refused.TheVariants.{NumberUsed, WrongSchema, Body, Lines, ClockRange}
use Rattle.archive_model.specs.Archives.{Archive, Version, Maker, ByFounding, ByBatch, ByMigration, columns_of, version_count}
use Rattle.archive_model.specs.Limits.{KeptRows, Versions, Weight, JournalBytes, clock_end}
use Rattle.archive_model.specs.Outcomes.{Outcome, refuses, repeats, makes, stamped, grown, over}

-- the number of a version and the digest of its body, where it came by the batch of that curator and number
abbrev pub batch_in : List ℕ → ℕ → ℕ → Maker → Option (ℕ × List ℕ)
batch_in curator number n (ByBatch c k digest lines) = if is_word c curator && (k == number) then Some (n, digest) else None
batch_in curator number n ByFounding = None
batch_in curator number n (ByMigration steps) = None

-- the version that the batch of that curator and number made, and the digest of its body
abbrev pub batch_of : List ℕ → ℕ → Version → List Version → Option (ℕ × List ℕ)
batch_of curator number v [] = batch_in curator number 1 v.maker
batch_of curator number v (w ∷ ws) = option_or (batch_in curator number (length (w ∷ ws) + 1) v.maker) (batch_of curator number w ws)

-- the entry of a batch
abbrev pub batch_entry : Archive → BatchAsk → ℕ → Entry
batch_entry a ask now = entries.Batch (record { stamp = stamped a now; schema = ask.schema; curator = ask.curator; number = ask.number; body = ask.body })

-- the archive with the version that lines make
abbrev pub with_batch : Archive → BatchAsk → ℕ → List Line → List (List Value) → Archive
with_batch a ask now lines table =
    grown a (record { schema = a.last.schema; table = table; stamp = stamped a now; maker = ByBatch ask.curator ask.number (sha256 ask.body) lines }) (batch_entry a ask now)

-- the archive after a batch that was not there before, or the first rule that it breaks
abbrev pub new_batch : Archive → BatchAsk → ℕ → Result Archive Refused
new_batch a ask now =
    demand (ask.schema == a.last.schema.number) (WrongSchema a.last.schema.number) (
    given (lines_of (columns_of a) ask.body) Body (λ lines.
    given (after_lines 1 lines a.last.table) Lines (λ table.
    unless (over (with_batch a ask now lines table) (Versions ∷ KeptRows ∷ Weight ∷ JournalBytes ∷ [])) (
    demand (nat_lt now clock_end) (ClockRange now) (
    Ok (with_batch a ask now lines table))))))

-- what a used number of the curator's says: the batch that used it, if it has that body, or a refusal
abbrev pub by_number : Archive → BatchAsk → Option (ℕ × List ℕ) → Outcome Stored → Outcome Stored
by_number a ask None fresh = fresh
by_number a ask (Some used) fresh =
    if is_word used.1 (sha256 ask.body) then repeats a (record { version = used.0; new = false }) else refuses a (NumberUsed used.0)

-- the outcome of a batch at a moment
abbrev pub batch_step : Archive → BatchAsk → ℕ → Outcome Stored
batch_step a ask now =
    by_number a ask (batch_of ask.curator ask.number a.last a.older)
    (makes a (batch_entry a ask now) (record { version = version_count a + 1; new = true }) (new_batch a ask now))
