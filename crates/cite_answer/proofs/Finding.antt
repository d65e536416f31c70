-- What is known of what is found under a text.
use Rattle.std.proofs.Common.{◌≡◌, ℕ, ◌≤◌, ◌<◌, ◌^◌, Bool, List, Option, Some, None, Result, length, codes, refl, sym, ap, ◌∙◌, subst}
use Rattle.std.specs.Prelude.{Ok, Err, IfOk}
use Rattle.std.specs.Borrow.{Bor}
use Rattle.std.proofs.lemmas.List.{length-map}
use Rattle.sha2.specs.Sha256.{sha256}
use Rattle.cite_schema.specs.Headings.{Heading}
use Rattle.cite_schema.specs.declared.dataset.Dataset.{Dataset}
use Rattle.cite_schema.specs.declared.dataset.Issue.{Issue}
use Rattle.subset_query.specs.Printed.{printed_form}
use Rattle.identifiers.specs.Names.{IsReading}
use Rattle.identifiers.specs.declared.named.Named.{Named}
use Rattle.identifiers.specs.declared.named.Named.TheVariants.{Superset, Subset}
use Rattle.entry_codec.specs.declared.entry.Entry.{Entry}
use Rattle.query_store.specs.Citations.{numbered}
use Rattle.query_store.specs.declared.citation.Citation.{Citation as Kept}
use Rattle.archive_model.specs.Archives.{Archive, Minted, version_count}
use Rattle.archive_model.specs.Histories.{LeadsTo}
use Rattle.archive_state.specs.declared.snapshot.Snapshot.{Snapshot}
use Rattle.archive_state.specs.Executing.{minted_as}
use Rattle.archive_state.specs.Standing.{IsSeen, PartsStand, Shows, kept_of, first_stamp}
use Rattle.archive_state.proofs.ResolveMinted.{minted_there, minted_nowhere}
use Rattle.datacite_meta.specs.Stamps.{IsStamp}
use Rattle.datacite_meta.specs.Metadata.{IsDescribed, IsIssued, meta_json, dataset_json}
use Rattle.landing_page.specs.Pages.{page_of, dataset_page_of}
use Rattle.cite_http.specs.declared.reply.Reply.{Reply}
use Rattle.cite_http.specs.declared.reply.Media.TheVariants.{Json, Html}
use Rattle.cite_answer.specs.declared.reading.Found.{Found}
use Rattle.cite_answer.specs.declared.reading.Found.TheVariants as found
use Rattle.cite_answer.specs.Bodies.{state_json}
use Rattle.cite_answer.specs.Replies.{found_reply}
use Rattle.cite_answer.specs.Parts.{IsFound}
use Rattle.cite_answer.specs.Reads.{Meaning, NotAName, NotIssued, DataSet, Citation, meaning_at, meaning_of, Means, page_reply, metadata_reply, state_reply}
use Rattle.cite_answer.proofs.Described.{described, last_is_stamp, first_is_stamp, issued, number_is, number_above, version_within}

-- the parts that readers see stand for a history
pub parts_stand : (s : Snapshot) → IsSeen s → PartsStand s.rows s.store
parts_stand s seen = record { history = seen.history; archive = seen.archive; leads = seen.leads; agree = seen.shows.parts }

-- a citation that is meant has a number
pub meant_number : (a : Archive) (read : Option Named) (m : Minted) → Citation m ≡ meaning_of a read → (number : ℕ) × (minted_as a number ≡ Some m)
meant_number a None m e = absurd (cc)
meant_number a (Some Superset) m e = absurd (cc)
meant_number a (Some (Subset number)) m e = (number, by (minted_as a number) e)
  where
    by : (o : Option Minted) → Citation m ≡ meaning_at o → o ≡ Some m
    by None e = absurd (cc)
    by (Some k) e = cc

-- what is told of a citation that is meant is issued
pub meant_issued : (history : List Entry) (a : Archive) (text : List ℕ) (m : Minted) → LeadsTo history a → Means a text (Citation m) → IsIssued m.issue
meant_issued history a text m leads (read, reading, e) =
    let (number, is) = meant_number a read m e in
    issued history a number m leads is

-- what is told of a citation that is kept is issued, under its number, which is from 1 on
pub kept_issued : (s : Snapshot) (number : ℕ) (c : Kept) → IsSeen s → numbered s.store number ≡ Some c → IsIssued c.issue × (c.issue.number ≡ number)
kept_issued s number c seen e =
    let (m, is, same) = minted_there seen.archive s.store number c seen.shows.parts.same e in
    subst (λ (k : Kept). IsIssued k.issue × (k.issue.number ≡ number)) same
    (issued seen.history seen.archive number m seen.leads is, number_is seen.history seen.archive number m seen.leads is)

pub kept_version : (s : Snapshot) (number : ℕ) (c : Kept) → IsSeen s → numbered s.store number ≡ Some c → c.issue.version < 2 ^ 32
kept_version s number c seen e =
    let (m, is, same) = minted_there seen.archive s.store number c seen.shows.parts.same e in
    subst (λ (k : Kept). k.issue.version < 2 ^ 32) same (version_within seen.history seen.archive number m seen.leads is)

pub kept_above : (s : Snapshot) (number : ℕ) (c : Kept) → IsSeen s → numbered s.store number ≡ Some c → 1 ≤ number
kept_above s number c seen e =
    let (m, is, same) = minted_there seen.archive s.store number c seen.shows.parts.same e in
    number_above seen.archive number m is

-- what is Ok has what follows
pub ok_into : {A E : Type 0} (P Q : A → Type 0) (r : Result A E) → ((x : A) → P x → Q x) → IfOk r P → IfOk r Q
ok_into P Q (Ok x) turn h = turn x h
ok_into P Q (Err e) turn h = tt

-- what was read of a text by the prefix of the data set is what it means
pub means_read : (s : Snapshot) (a : Archive) (prefix text : List ℕ) (read : Option Named) → Shows s a → prefix ≡ s.dataset.prefix → IsReading prefix text read → Means a text (meaning_of a read)
means_read s a prefix text read shows e reading =
    (read, subst (λ (p : List ℕ). IsReading p text read) (e ∙ ap (λ (d : Dataset). d.prefix) shows.dataset_is) reading, refl)

-- a citation that is kept under a number is meant by it
pub found_there : (s : Snapshot) (a : Archive) (prefix text : List ℕ) (number : ℕ) (c : Bor Kept) → Shows s a → prefix ≡ s.dataset.prefix → IsReading prefix text (Some (Subset number)) → numbered s.store number ≡ Some c.now
    → (meaning : Meaning) × Means a text meaning × IsFound meaning (found.Citation c)
found_there s a prefix text number c shows e reading kept =
    let (m, is, same) = minted_there a s.store number c.now shows.parts.same kept in
    let (read, reads, meant) = means_read s a prefix text (Some (Subset number)) shows e reading in
    (Citation m, (Some (Subset number), subst (λ (p : List ℕ). IsReading p text (Some (Subset number))) (e ∙ ap (λ (d : Dataset). d.prefix) shows.dataset_is) reading, ap meaning_at (sym is)), sym same)

-- where none is kept, the number was not issued
pub found_nowhere : (s : Snapshot) (a : Archive) (prefix text : List ℕ) (number : ℕ) → Shows s a → prefix ≡ s.dataset.prefix → IsReading prefix text (Some (Subset number)) → numbered s.store number ≡ None
    → (meaning : Meaning) × Means a text meaning × IsFound meaning found.NotIssued
found_nowhere s a prefix text number shows e reading none =
    (NotIssued, (Some (Subset number), subst (λ (p : List ℕ). IsReading p text (Some (Subset number))) (e ∙ ap (λ (d : Dataset). d.prefix) shows.dataset_is) reading, ap meaning_at (sym (minted_nowhere a s.store number shows.parts.same none))), tt)

-- what was found tells what is meant
pub found_name : (meaning : Meaning) → IsFound meaning found.NotAName → meaning ≡ NotAName
found_name NotAName is = refl
found_name NotIssued is = absurd is
found_name DataSet is = absurd is
found_name (Citation m) is = absurd is

pub found_set : (meaning : Meaning) → IsFound meaning found.DataSet → meaning ≡ DataSet
found_set NotAName is = absurd is
found_set NotIssued is = absurd is
found_set DataSet is = refl
found_set (Citation m) is = absurd is

-- what is told of a citation that was found is issued
pub found_issued : (history : List Entry) (a : Archive) (text : List ℕ) (meaning : Meaning) (c : Bor Kept) → LeadsTo history a → Means a text meaning → IsFound meaning (found.Citation c) → IsIssued c.now.issue
found_issued history a text NotAName c leads means is = absurd is
found_issued history a text NotIssued c leads means is = absurd is
found_issued history a text DataSet c leads means is = absurd is
found_issued history a text (Citation m) c leads means is = subst (λ (k : Kept). IsIssued k.issue) (sym is) (meant_issued history a text m leads means)

-- its page is the one that is meant
pub citation_shown : (a : Archive) (closing : Bool) (meaning : Meaning) (c : Bor Kept) (d : Dataset) (body : List ℕ) → d ≡ a.dataset → IsFound meaning (found.Citation c)
    → body ≡ page_of d c.now.issue (printed_form c.now.normal) c.now.query_sha c.now.result_sha → found_reply Html body closing ≡ page_reply a closing meaning
citation_shown a closing NotAName c d body same is e = absurd is
citation_shown a closing NotIssued c d body same is e = absurd is
citation_shown a closing DataSet c d body same is e = absurd is
citation_shown a closing (Citation m) c d body same is e =
    ap (λ (b : List ℕ). found_reply Html b closing)
    (e ∙ ap (λ (k : Kept). page_of d k.issue (printed_form k.normal) k.query_sha k.result_sha) is
    ∙ ap (λ (w : Dataset). page_of w m.issue (printed_form m.form) (sha256 (printed_form m.form)) (sha256 m.bytes)) same)

-- and so are its metadata
pub citation_told : (a : Archive) (closing : Bool) (meaning : Meaning) (c : Bor Kept) (d : Dataset) (body : List ℕ) → d ≡ a.dataset → IsFound meaning (found.Citation c)
    → body ≡ meta_json d c.now.issue → found_reply Json body closing ≡ metadata_reply a closing meaning
citation_told a closing NotAName c d body same is e = absurd is
citation_told a closing NotIssued c d body same is e = absurd is
citation_told a closing DataSet c d body same is e = absurd is
citation_told a closing (Citation m) c d body same is e =
    ap (λ (b : List ℕ). found_reply Json b closing) (e ∙ ap (λ (k : Kept). meta_json d k.issue) is ∙ ap (λ (w : Dataset). meta_json w m.issue) same)

issued_are : (s : Snapshot) (a : Archive) → Shows s a → length s.store ≡ length a.minted
issued_are s a shows = ap length shows.parts.same ∙ length-map a.minted kept_of

-- the page of the data set is told by what readers see
pub page_same : (s : Snapshot) (a : Archive) (d : Dataset) (version updated issued : ℕ) → d ≡ s.dataset → version ≡ s.rows.last → updated ≡ s.updated → issued ≡ length s.store → Shows s a
    → dataset_page_of d version updated issued ≡ dataset_page_of a.dataset (version_count a) a.last.stamp (length a.minted)
page_same s a d version updated issued d_is version_is updated_is issued_is shows =
    ap (λ (w : Dataset). dataset_page_of w version updated issued) (d_is ∙ shows.dataset_is)
    ∙ ap (λ (n : ℕ). dataset_page_of a.dataset n updated issued) (version_is ∙ shows.parts.tables.last)
    ∙ ap (λ (n : ℕ). dataset_page_of a.dataset (version_count a) n issued) (updated_is ∙ shows.updated_is)
    ∙ ap (dataset_page_of a.dataset (version_count a) a.last.stamp) (issued_is ∙ issued_are s a shows)

-- and so are its metadata
pub set_told : (s : Snapshot) (a : Archive) (closing : Bool) (d : Dataset) (founded updated : ℕ) (body : List ℕ) → d ≡ s.dataset → founded ≡ s.founded → updated ≡ s.updated → Shows s a → body ≡ dataset_json d founded updated
    → found_reply Json body closing ≡ metadata_reply a closing DataSet
set_told s a closing d founded updated body d_is founded_is updated_is shows e =
    ap (λ (b : List ℕ). found_reply Json b closing)
    (e ∙ ap (λ (w : Dataset). dataset_json w founded updated) (d_is ∙ shows.dataset_is)
    ∙ ap (λ (n : ℕ). dataset_json a.dataset n updated) (founded_is ∙ shows.founded_is)
    ∙ ap (dataset_json a.dataset (first_stamp a.last a.older)) (updated_is ∙ shows.updated_is))

-- and so is the state
pub state_told : (s : Snapshot) (a : Archive) (closing : Bool) (issued version : ℕ) (schema : Heading) (body : List ℕ) → issued ≡ length s.store → schema ≡ s.schema → version ≡ s.rows.last → Shows s a → body ≡ state_json issued schema version
    → found_reply Json body closing ≡ state_reply a closing
state_told s a closing issued version schema body issued_is schema_is version_is shows e =
    ap (λ (b : List ℕ). found_reply Json b closing)
    (e ∙ ap (λ (n : ℕ). state_json n schema version) (issued_is ∙ issued_are s a shows)
    ∙ ap (λ (h : Heading). state_json (length a.minted) h version) (schema_is ∙ shows.schema_is)
    ∙ ap (state_json (length a.minted) a.last.schema) (version_is ∙ shows.parts.tables.last))

-- what readers see is described, and its stamps have texts
pub seen_described : (s : Snapshot) → IsSeen s → IsDescribed s.dataset
seen_described s seen = subst IsDescribed (sym seen.shows.dataset_is) (described seen.history seen.archive seen.leads)

pub seen_updated : (s : Snapshot) → IsSeen s → IsStamp s.updated
seen_updated s seen = subst IsStamp (sym seen.shows.updated_is) (last_is_stamp seen.history seen.archive seen.leads)

pub seen_founded : (s : Snapshot) → IsSeen s → IsStamp s.founded
seen_founded s seen = subst IsStamp (sym seen.shows.founded_is) (first_is_stamp seen.history seen.archive seen.leads)
