-- What is read of an archive: the answers to messages that change nothing.
use Rattle.std.specs.Prelude.{◌≡◌, ℕ, Bool, List, Option, Some, None, codes, length}
use Rattle.sha2.specs.Sha256.{sha256}
use Rattle.cite_schema.specs.declared.dataset.Dataset.{Dataset}
use Rattle.subset_query.specs.Printed.{printed_form}
use Rattle.identifiers.specs.Names.{IsReading}
use Rattle.identifiers.specs.declared.named.Named.{Named}
use Rattle.identifiers.specs.declared.named.Named.TheVariants.{Superset, Subset}
use Rattle.archive_model.specs.Archives.{Archive, Minted, version_count}
use Rattle.archive_state.specs.Executing.{minted_as}
use Rattle.archive_state.specs.Standing.{first_stamp}
use Rattle.datacite_meta.specs.Metadata.{meta_json, dataset_json}
use Rattle.landing_page.specs.Pages.{page_of, dataset_page_of}
use Rattle.cite_http.specs.declared.ask.Ask.{Ask}
use Rattle.cite_http.specs.declared.ask.Ask.TheVariants as asks
use Rattle.cite_http.specs.declared.reply.Reply.{Reply}
use Rattle.cite_http.specs.declared.reply.Media.TheVariants.{Json, Html, Csv}
use Rattle.cite_answer.specs.Bodies.{state_json}
use Rattle.cite_answer.specs.Replies.{found_reply, missing_reply, status_reply}

-- what a text means in an archive: it is no name; its number is that of no citation; or it names the data set or a citation
pub data Meaning : Type 0 where
  NotAName : Meaning
  NotIssued : Meaning
  DataSet : Meaning
  Citation : Minted → Meaning

-- a number means the citation that has it
abbrev pub meaning_at : Option Minted → Meaning
meaning_at None = NotIssued
meaning_at (Some m) = Citation m

-- what was read of a text means
abbrev pub meaning_of : Archive → Option Named → Meaning
meaning_of a None = NotAName
meaning_of a (Some Superset) = DataSet
meaning_of a (Some (Subset number)) = meaning_at (minted_as a number)

-- this is what the text means
abbrev pub Means : Archive → List ℕ → Meaning → Type 0
Means a text meaning = (read : Option Named) × IsReading a.dataset.prefix text read × (meaning ≡ meaning_of a read)

-- the page of a citation
abbrev pub citation_page : Dataset → Minted → List ℕ
citation_page d m = page_of d m.issue (printed_form m.form) (sha256 (printed_form m.form)) (sha256 m.bytes)

-- the landing page (RDA R11)
abbrev pub page_reply : Archive → (closing : Bool) → Meaning → Reply
page_reply a closing NotAName = missing_reply (codes "NotAName") closing
page_reply a closing NotIssued = missing_reply (codes "NotIssued") closing
page_reply a closing DataSet = found_reply Html (dataset_page_of a.dataset (version_count a) a.last.stamp (length a.minted)) closing
page_reply a closing (Citation m) = found_reply Html (citation_page a.dataset m) closing

-- the bytes that were minted with a citation; the data set has none that stay the same
abbrev pub bytes_reply : (closing : Bool) → Meaning → Reply
bytes_reply closing NotAName = missing_reply (codes "NotAName") closing
bytes_reply closing NotIssued = missing_reply (codes "NotIssued") closing
bytes_reply closing DataSet = missing_reply (codes "NoFixedBytes") closing
bytes_reply closing (Citation m) = found_reply Csv m.bytes closing

-- the metadata for machines (RDA R12)
abbrev pub metadata_reply : Archive → (closing : Bool) → Meaning → Reply
metadata_reply a closing NotAName = missing_reply (codes "NotAName") closing
metadata_reply a closing NotIssued = missing_reply (codes "NotIssued") closing
metadata_reply a closing DataSet = found_reply Json (dataset_json a.dataset (first_stamp a.last a.older) a.last.stamp) closing
metadata_reply a closing (Citation m) = found_reply Json (meta_json a.dataset m.issue) closing

-- what the archive holds
abbrev pub state_reply : Archive → (closing : Bool) → Reply
state_reply a closing = found_reply Json (state_json (length a.minted) a.last.schema (version_count a)) closing

-- the answer to a message that asks for no change
abbrev pub Reads : Archive → Ask → (closing : Bool) → Reply → Type 0
Reads a asks.State closing reply = reply ≡ state_reply a closing
Reads a (asks.Page name) closing reply = (meaning : Meaning) × Means a name meaning × (reply ≡ page_reply a closing meaning)
Reads a (asks.Bytes name) closing reply = (meaning : Meaning) × Means a name meaning × (reply ≡ bytes_reply closing meaning)
Reads a (asks.Metadata name) closing reply = (meaning : Meaning) × Means a name meaning × (reply ≡ metadata_reply a closing meaning)
Reads a (asks.Bad status) closing reply = reply ≡ status_reply closing status
Reads a (asks.Batch ask) closing reply = ⊥
Reads a (asks.Cite body) closing reply = ⊥
Reads a (asks.Migrate schema body) closing reply = ⊥
