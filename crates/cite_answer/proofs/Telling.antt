-- How the outcomes of batches, citations and migrations are told.
use Rattle.std.proofs.Common.{◌≡◌, ℕ, Bool, true, List, [], ◌∷◌, ◌++◌, Option, Some, None, Result, refl, sym, ap, ◌∙◌, subst}
use Rattle.std.specs.Prelude.{Ok, Err}
use Rattle.cite_schema.specs.declared.batch_ask.BatchAsk.{BatchAsk}
use Rattle.cite_schema.specs.declared.query.CiteAsk.{CiteAsk}
use Rattle.cite_schema.specs.declared.step.Step.{Step}
use Rattle.query_json.specs.declared.fault.JsonFault.{JsonFault}
use Rattle.query_json.specs.Requests.{request_in}
use Rattle.query_json.specs.Steps.{steps_in}
use Rattle.identifiers.specs.Names.{name_of}
use Rattle.identifiers.specs.declared.named.Named.TheVariants.{Subset}
use Rattle.archive_model.specs.declared.answers.Refused.{Refused}
use Rattle.archive_model.specs.declared.answers.Stored.{Stored}
use Rattle.archive_model.specs.declared.answers.Cited.{Cited}
use Rattle.archive_model.specs.declared.answers.Moved.{Moved}
use Rattle.archive_model.specs.Archives.{Archive, Minted}
use Rattle.archive_model.specs.Outcomes.{Outcome}
use Rattle.archive_model.specs.Batching.{batch_step}
use Rattle.archive_model.specs.Citing.{CiteStep}
use Rattle.archive_model.specs.Migrating.{MigrateStep}
use Rattle.archive_state.specs.Executing.{minted_as}
use Rattle.datacite_meta.specs.Metadata.{citation_text}
use Rattle.cite_http.specs.declared.ask.Ask.TheVariants as asks
use Rattle.cite_http.specs.declared.message.Message.{Message}
use Rattle.cite_http.specs.declared.reply.Reply.{Reply}
use Rattle.cite_answer.specs.Bodies.{cited_json}
use Rattle.cite_answer.specs.Replies.{change_reply, refusal_reply}
use Rattle.cite_answer.specs.Messages.{Cites, Migrates, stored_reply, moved_reply, TellsCited}
use Rattle.archive_core.proofs.Outcomes.{KeepsOld, batch_keeps, cite_keeps, migrate_keeps, IsCitedIn, cite_cited}
use Rattle.cite_answer.proofs.Faring.{IsTold}

-- a batch is told in a stored reply
abbrev pub TellsStored : (closing : Bool) → Archive → Result Stored Refused → Reply → Type 0
TellsStored closing b told reply = reply ≡ stored_reply b.dataset.prefix closing told

pub batch_told : (a : Archive) (ask : BatchAsk) (closing : Bool) (now : ℕ)
    → IsTold a (record { ask = asks.Batch ask; closing = closing }) now (λ o. o ≡ batch_step a ask now) (TellsStored closing)
batch_told a ask closing now = record {
  keeps = λ o s. subst (KeepsOld {R = Stored} a) (sym s) (batch_keeps a ask now);
  some = λ o s. (stored_reply o.after.dataset.prefix closing o.reply, refl);
  one = λ o s reply replied. (
    record { entry = ap (λ (w : Outcome Stored). w.entry) s; after = ap (λ (w : Outcome Stored). w.after) s },
    replied ∙ ap (λ (w : Outcome Stored). stored_reply o.after.dataset.prefix closing w.reply) s,
  );
  failed = λ b reply replied. replied;
  wanting = λ b reply replied. replied;
}

-- a migration in a moved reply
abbrev pub TellsMoved : (closing : Bool) → Archive → Result Moved Refused → Reply → Type 0
TellsMoved closing b told reply = reply ≡ moved_reply b.dataset.prefix closing told

pub migrate_told : (a : Archive) (schema : ℕ) (body : List ℕ) (steps : List Step) (closing : Bool) (now : ℕ) → steps_in body ≡ Ok steps
    → IsTold a (record { ask = asks.Migrate schema body; closing = closing }) now (MigrateStep a schema steps now) (TellsMoved closing)
migrate_told a schema body steps closing now read = record {
  keeps = migrate_keeps a schema steps now;
  some = λ o s. (moved_reply o.after.dataset.prefix closing o.reply, refl);
  one = λ o s reply replied.
      subst (λ (r : Result (List Step) JsonFault). Migrates a schema r closing now (record { reply = reply; entry = o.entry; after = o.after })) (sym read)
      (o, s, record { entry = refl; after = refl }, replied);
  failed = λ b reply replied. replied;
  wanting = λ b reply replied. replied;
}

-- a citation is told, if its number is that of one
cited_some : (b : Archive) (closing : Bool) (told : Result Cited Refused) → ((cited : Cited) → told ≡ Ok cited → (m : Minted) × (minted_as b cited.number ≡ Some m)) → (reply : Reply) × TellsCited b closing told reply
cited_some b closing (Ok cited) there =
    let (m, is) = there cited refl in
    (change_reply cited.new (cited_json (name_of b.dataset.prefix (Subset cited.number)) cited.new (citation_text b.dataset m.issue)) closing, (m, is, refl))
cited_some b closing (Err refusal) there = (refusal_reply b.dataset.prefix closing refusal, refl)

abbrev pub TellsCitation : (closing : Bool) → Archive → Result Cited Refused → Reply → Type 0
TellsCitation closing b told reply = TellsCited b closing told reply

pub cite_told : (a : Archive) (body : List ℕ) (ask : CiteAsk) (closing : Bool) (now : ℕ) → request_in body ≡ Ok ask
    → IsTold a (record { ask = asks.Cite body; closing = closing }) now (CiteStep a ask now) (TellsCitation closing)
cite_told a body ask closing now read = record {
  keeps = cite_keeps a ask now;
  some = λ o s. cited_some o.after closing o.reply (cite_cited a ask now o s);
  one = λ o s reply replied.
      subst (λ (r : Result CiteAsk JsonFault). Cites a r closing now (record { reply = reply; entry = o.entry; after = o.after })) (sym read)
      (o, s, record { entry = refl; after = refl }, replied);
  failed = λ b reply replied. replied;
  wanting = λ b reply replied. replied;
}
