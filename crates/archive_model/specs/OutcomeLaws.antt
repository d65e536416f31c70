-- The laws that there is an outcome.
use Rattle.std.specs.Prelude.{ℕ, List}
use Rattle.cite_schema.specs.declared.step.Step.{Step}
use Rattle.cite_schema.specs.declared.query.CiteAsk.{CiteAsk}
use Rattle.entry_codec.specs.declared.entry.Entry.{Entry}
use Rattle.archive_model.specs.declared.answers.Cited.{Cited}
use Rattle.archive_model.specs.declared.answers.Moved.{Moved}
use Rattle.archive_model.specs.Archives.{Archive}
use Rattle.archive_model.specs.Outcomes.{Outcome}
use Rattle.archive_model.specs.Citing.{CiteStep}
use Rattle.archive_model.specs.Migrating.{MigrateStep}
use Rattle.archive_model.specs.Histories.{LeadsTo}

-- a citation has an outcome
abbrev pub CitationsHaveAnOutcome : Type 0
CitationsHaveAnOutcome = (history : List Entry) (a : Archive) (ask : CiteAsk) (now : ℕ) → LeadsTo history a → (o : Outcome Cited) × CiteStep a ask now o

-- a migration has an outcome
abbrev pub MigrationsHaveAnOutcome : Type 0
MigrationsHaveAnOutcome = (history : List Entry) (a : Archive) (schema : ℕ) (steps : List Step) (now : ℕ) → LeadsTo history a → (o : Outcome Moved) × MigrateStep a schema steps now o
