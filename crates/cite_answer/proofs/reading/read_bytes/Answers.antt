use Rattle.std.proofs.Common.{◌≡◌, List, ℕ, Option, Some, None, ap, ◌∙◌, subst, codes}
use Rattle.cite_schema.specs.declared.dataset.Dataset.{Dataset}
use Rattle.identifiers.specs.Names.{IsReading}
use Rattle.identifiers.specs.declared.named.Named.{Named}
use Rattle.identifiers.specs.declared.named.Named.TheVariants.{Superset, Subset}
use Rattle.entry_codec.specs.declared.entry.Entry.{Entry}
use Rattle.archive_model.specs.Archives.{Archive}
use Rattle.archive_model.specs.Histories.{LeadsTo}
use Rattle.archive_state.specs.Executing.{minted_as}
use Rattle.archive_state.specs.Standing.{Shows}
use Rattle.cite_answer.specs.Reads.{Meaning, NotAName, DataSet, Means, meaning_at, bytes_reply}
use Rattle.cite_answer.specs.Replies.{missing_reply}
use Rattle.cite_answer.proofs.Finding.{ok_into, means_read}
use Rattle.cite_answer.proofs.reading.read_bytes.Goals as goal

pub returns-in-None-clause-value : goal.returns-in-None-clause-value
returns-in-None-clause-value c =
    let same = c.as_slice.ensures ∙ ap (λ (d : Dataset). d.prefix) c.dataset.ensures in
    let reading = subst (λ (r : Option Named). IsReading c.as_slice.result.now c.args.name.now r) c.in-None.is c.read.ensures in
    ok_into (λ reply. reply ≡ missing_reply (codes "NotAName") c.args.closing)
    (λ reply. (history : List Entry) (a : Archive) → LeadsTo history a → Shows c.args.seen.now a → (meaning : Meaning) × Means a c.args.name.now meaning × (reply ≡ bytes_reply c.args.closing meaning)) c.missing_reply.result
    (λ reply e history a leads shows. (NotAName, means_read c.args.seen.now a c.as_slice.result.now c.args.name.now None shows same reading, e))
    c.missing_reply.ensures.value

pub returns-in-Some-Superset-clause-value : goal.returns-in-Some-Superset-clause-value
returns-in-Some-Superset-clause-value c =
    let same = c.as_slice.ensures ∙ ap (λ (d : Dataset). d.prefix) c.dataset.ensures in
    let reading = subst (λ (r : Option Named). IsReading c.as_slice.result.now c.args.name.now r) (c.in-Some-Superset.is ∙ ap Some c.in-Some-Superset.field-0-is) c.read.ensures in
    ok_into (λ reply. reply ≡ missing_reply (codes "NoFixedBytes") c.args.closing)
    (λ reply. (history : List Entry) (a : Archive) → LeadsTo history a → Shows c.args.seen.now a → (meaning : Meaning) × Means a c.args.name.now meaning × (reply ≡ bytes_reply c.args.closing meaning)) c.missing_reply-in-Some-Superset.result
    (λ reply e history a leads shows. (DataSet, means_read c.args.seen.now a c.as_slice.result.now c.args.name.now (Some Superset) shows same reading, e))
    c.missing_reply-in-Some-Superset.ensures.value

pub returns-in-Some-Subset-clause-value : goal.returns-in-Some-Subset-clause-value
returns-in-Some-Subset-clause-value c =
    let same = c.as_slice.ensures ∙ ap (λ (d : Dataset). d.prefix) c.dataset.ensures in
    let number = c.in-Some-Subset.number in
    let reading = subst (λ (r : Option Named). IsReading c.as_slice.result.now c.args.name.now r) (c.in-Some-Subset.is ∙ ap Some c.in-Some-Subset.field-0-is) c.read.ensures in
    ok_into (λ reply. (history : List Entry) (a : Archive) → LeadsTo history a → Shows c.args.seen.now a → reply ≡ bytes_reply c.args.closing (meaning_at (minted_as a number)))
    (λ reply. (history : List Entry) (a : Archive) → LeadsTo history a → Shows c.args.seen.now a → (meaning : Meaning) × Means a c.args.name.now meaning × (reply ≡ bytes_reply c.args.closing meaning)) c.bytes_of.result
    (λ reply e history a leads shows. (meaning_at (minted_as a number), means_read c.args.seen.now a c.as_slice.result.now c.args.name.now (Some (Subset number)) shows same reading, e history a leads shows))
    c.bytes_of.ensures.value
