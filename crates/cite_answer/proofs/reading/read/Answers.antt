use Rattle.std.proofs.Common.{◌≡◌, List, ℕ, sym, subst}
use Rattle.entry_codec.specs.declared.entry.Entry.{Entry}
use Rattle.archive_model.specs.Archives.{Archive}
use Rattle.archive_model.specs.Histories.{LeadsTo}
use Rattle.archive_state.specs.Standing.{Shows}
use Rattle.cite_http.specs.declared.ask.Ask.{Ask}
use Rattle.cite_answer.specs.Reads.{Meaning, Means, Reads, page_reply, bytes_reply, metadata_reply}
use Rattle.cite_answer.proofs.Finding.{ok_into}
use Rattle.cite_answer.proofs.reading.read.Goals as goal

pub returns-in-Page-clause-reads : goal.returns-in-Page-clause-reads
returns-in-Page-clause-reads c =
    let m = c.args.message.now in
    ok_into (λ reply. (a : Archive) → Shows c.args.seen.now a → (meaning : Meaning) × Means a c.as_slice.result.now meaning × (reply ≡ page_reply a m.closing meaning))
    (λ reply. (history : List Entry) (a : Archive) → LeadsTo history a → Shows c.args.seen.now a → Reads a m.ask m.closing reply) c.read_page.result
    (λ reply h history a leads shows.
    let (meaning, means, e) = h a shows in
    subst (λ (k : Ask). Reads a k m.closing reply) (sym c.in-Page.is) (meaning, subst (λ (n : List ℕ). Means a n meaning) c.as_slice.ensures means, e))
    c.read_page.ensures.value

pub returns-in-Bytes-clause-reads : goal.returns-in-Bytes-clause-reads
returns-in-Bytes-clause-reads c =
    let m = c.args.message.now in
    ok_into (λ reply. (history : List Entry) (a : Archive) → LeadsTo history a → Shows c.args.seen.now a → (meaning : Meaning) × Means a c.as_slice-in-Bytes.result.now meaning × (reply ≡ bytes_reply m.closing meaning))
    (λ reply. (history : List Entry) (a : Archive) → LeadsTo history a → Shows c.args.seen.now a → Reads a m.ask m.closing reply) c.read_bytes.result
    (λ reply h history a leads shows.
    let (meaning, means, e) = h history a leads shows in
    subst (λ (k : Ask). Reads a k m.closing reply) (sym c.in-Bytes.is) (meaning, subst (λ (n : List ℕ). Means a n meaning) c.as_slice-in-Bytes.ensures means, e))
    c.read_bytes.ensures.value

pub returns-in-Metadata-clause-reads : goal.returns-in-Metadata-clause-reads
returns-in-Metadata-clause-reads c =
    let m = c.args.message.now in
    ok_into (λ reply. (a : Archive) → Shows c.args.seen.now a → (meaning : Meaning) × Means a c.as_slice-in-Metadata.result.now meaning × (reply ≡ metadata_reply a m.closing meaning))
    (λ reply. (history : List Entry) (a : Archive) → LeadsTo history a → Shows c.args.seen.now a → Reads a m.ask m.closing reply) c.read_metadata.result
    (λ reply h history a leads shows.
    let (meaning, means, e) = h a shows in
    subst (λ (k : Ask). Reads a k m.closing reply) (sym c.in-Metadata.is) (meaning, subst (λ (n : List ℕ). Means a n meaning) c.as_slice-in-Metadata.ensures means, e))
    c.read_metadata.ensures.value
