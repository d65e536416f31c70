-- A message without an entry leaves the archive as it was.
use Rattle.std.proofs.Common.{◌≡◌, ℕ, Bool, List, None, Result, sym, ◌∙◌}
use Rattle.std.specs.Prelude.{Ok, Err}
use Rattle.cite_schema.specs.declared.step.Step.{Step}
use Rattle.cite_schema.specs.declared.query.CiteAsk.{CiteAsk}
use Rattle.query_json.specs.declared.fault.JsonFault.{JsonFault}
use Rattle.query_json.specs.Requests.{request_in}
use Rattle.query_json.specs.Steps.{steps_in}
use Rattle.archive_model.specs.Archives.{Archive}
use Rattle.archive_core.proofs.Outcomes.{batch_keeps, cite_keeps, migrate_keeps}
use Rattle.cite_http.specs.declared.ask.Ask.{Ask}
use Rattle.cite_http.specs.declared.ask.Ask.TheVariants as asks
use Rattle.cite_answer.specs.Messages.{Answered, Asked, Cites, Migrates}

-- a citation request
cites_keeps : (a : Archive) (r : Result CiteAsk JsonFault) (closing : Bool) (now : ℕ) (one : Answered) → Cites a r closing now one → one.entry ≡ None → one.after ≡ a
cites_keeps a (Err fault) closing now one h none = h.0.same
cites_keeps a (Ok ask) closing now one h none = h.2.after ∙ cite_keeps a ask now h.0 h.1 (sym h.2.entry ∙ none)

-- a migration
migrates_keeps : (a : Archive) (schema : ℕ) (r : Result (List Step) JsonFault) (closing : Bool) (now : ℕ) (one : Answered) → Migrates a schema r closing now one → one.entry ≡ None → one.after ≡ a
migrates_keeps a schema (Err fault) closing now one h none = h.0.same
migrates_keeps a schema (Ok steps) closing now one h none = h.2.after ∙ migrate_keeps a schema steps now h.0 h.1 (sym h.2.entry ∙ none)

-- a message
pub asked_keeps : (a : Archive) (ask : Ask) (closing : Bool) (now : ℕ) (one : Answered) → Asked a ask closing now one → one.entry ≡ None → one.after ≡ a
asked_keeps a (asks.Batch ask) closing now one h none = h.0.after ∙ batch_keeps a ask now (sym h.0.entry ∙ none)
asked_keeps a (asks.Cite body) closing now one h none = cites_keeps a (request_in body) closing now one h none
asked_keeps a (asks.Migrate schema body) closing now one h none = migrates_keeps a schema (steps_in body) closing now one h none
asked_keeps a asks.State closing now one h none = h.0.same
asked_keeps a (asks.Page name) closing now one h none = h.0.same
asked_keeps a (asks.Bytes name) closing now one h none = h.0.same
asked_keeps a (asks.Metadata name) closing now one h none = h.0.same
asked_keeps a (asks.Bad status) closing now one h none = h.0.same
