-- The laws of rows that agree with an archive.
use Rattle.std.specs.Prelude.{◌≡◌, ◌≤◌, ℕ, ◌+◌, List, [], ◌∷◌, ◌++◌, Option, Some, None, Ok, IsTrue, length, slice_get}
use Rattle.cite_schema.specs.Answers.{Gives}
use Rattle.cite_schema.specs.Headings.{Heading}
use Rattle.cite_schema.specs.declared.value.Value.{Value}
use Rattle.cite_schema.specs.declared.line.Line.{Line}
use Rattle.cite_schema.specs.declared.step.Step.{Step}
use Rattle.cite_schema.specs.declared.batch_ask.BatchAsk.{BatchAsk}
use Rattle.subset_query.specs.Forms.{formed}
use Rattle.migration.specs.Rows.{carry_row}
use Rattle.cite_schema.specs.declared.schema.Column.{Column}
use Rattle.batches.specs.Bodies.{lines_of}
use Rattle.versioned_rows.specs.ChangeLaws.{FitLines, NameOwnKeys}
use Rattle.versioned_rows.specs.Changes.{after_lines}
use Rattle.versioned_rows.specs.Weights.{rows_weight}
use Rattle.versioned_rows.specs.Histories.{RowHistory, rows_of, as_of}
use Rattle.versioned_rows.specs.Nexts.{IsNextByLines, IsNextByRule}
use Rattle.entry_codec.specs.declared.entry.Entry.{Entry}
use Rattle.archive_model.specs.Archives.{Archive, Minted, columns_of, version_count}
use Rattle.archive_model.specs.Limits.{KeptRows, Weight, quantity}
use Rattle.archive_model.specs.Batching.{with_batch}
use Rattle.archive_model.specs.Migrating.{with_migration}
use Rattle.archive_model.specs.Histories.{LeadsTo}
use Rattle.archive_model.specs.Agreeing.{AgreeRows}

-- the present form of a citation, asked of the rows as of its version, gives the bytes that were minted with it
pub record GivesAgain (rows : RowHistory) (m : Minted) : Type 0 where
  pub from : 1 ≤ m.issue.version
  pub to : m.issue.version ≤ rows.last
  pub gives : Gives (formed m.form) (as_of rows m.issue.version) m.bytes

-- so it is of every citation, wherever rows agree with an archive to which a history leads
abbrev pub ExecutingAgainGivesTheBytes : Type 0
ExecutingAgainGivesTheBytes = (history : List Entry) (a : Archive) (rows : RowHistory) (place : ℕ) (m : Minted) → LeadsTo history a → AgreeRows rows a
    → slice_get a.minted place ≡ Some m → GivesAgain rows m

-- the next rows by lines agree with the archive that the lines make
abbrev pub LinesKeepAgreement : Type 0
LinesKeepAgreement = (a : Archive) (ask : BatchAsk) (now : ℕ) (lines : List Line) (table : List (List Value)) (rows new : RowHistory) → AgreeRows rows a
    → after_lines 1 lines a.last.table ≡ Ok table → IsNextByLines lines rows new → AgreeRows new (with_batch a ask now lines table)

-- the next rows by the carrying of rows agree with the archive that the migration makes
abbrev pub StepsKeepAgreement : Type 0
StepsKeepAgreement = (a : Archive) (schema : Heading) (steps : List Step) (now : ℕ) (minted : List Minted) (rows new : RowHistory) → AgreeRows rows a
    → IsNextByRule (carry_row (columns_of a) steps) rows new → AgreeRows new (record (with_migration a schema steps now) { minted = minted })

-- rows that agree with an archive have its count and its weight
abbrev pub AgreementCounts : Type 0
AgreementCounts = (a : Archive) (rows : RowHistory) → AgreeRows rows a → (quantity a KeptRows ≡ length rows.kept) × (quantity a Weight ≡ rows_weight (rows_of rows))

-- all three
abbrev pub RowsStayInStep : Type 0
RowsStayInStep = LinesKeepAgreement × StepsKeepAgreement × AgreementCounts

-- the lines that a body spells fit the columns, and name no key twice
abbrev pub BodiesSpellGoodLines : Type 0
BodiesSpellGoodLines = (columns : List Column) (body : List ℕ) (lines : List Line) → lines_of columns body ≡ Ok lines → FitLines columns lines × NameOwnKeys lines
