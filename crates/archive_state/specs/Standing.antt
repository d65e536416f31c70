-- When what is kept stands for a history.
use Rattle.std.specs.Prelude.{◌≡◌, ℕ, List, [], ◌∷◌, map, length}
use Rattle.std.specs.Arc.{arc_value}
use Rattle.sha2.specs.Sha256.{sha256}
use Rattle.subset_query.specs.Printed.{printed_form}
use Rattle.versioned_rows.specs.Histories.{RowHistory}
use Rattle.query_store.specs.declared.citation.Citation.{Citation}
use Rattle.entry_codec.specs.declared.entry.Entry.{Entry}
use Rattle.archive_model.specs.Archives.{Archive, Version, Minted}
use Rattle.archive_model.specs.Batching.{batch_of}
use Rattle.archive_model.specs.Histories.{LeadsTo}
use Rattle.archive_model.specs.Agreeing.{AgreeRows}
use Rattle.archive_state.specs.Used.{use_of}
use Rattle.archive_state.specs.declared.snapshot.Snapshot.{Snapshot}
use Rattle.archive_state.specs.declared.present.Present.{Present}

-- what is kept of a citation: not its bytes, but their digest
abbrev pub kept_of : Minted → Citation
kept_of m = record { issue = m.issue; asked = m.asked; normal = m.form; query_sha = sha256 (printed_form m.form); result_sha = sha256 m.bytes }

-- the rows hold the tables of the archive, and the citations are its own
pub record AgreeParts (rows : RowHistory) (citations : List Citation) (a : Archive) : Type 0 where
  pub tables : AgreeRows rows a
  pub same : citations ≡ map kept_of a.minted

-- they agree with an archive to which some history leads
pub record PartsStand (rows : RowHistory) (citations : List Citation) : Type 0 where
  pub history : List Entry
  pub archive : Archive
  pub leads : LeadsTo history archive
  pub agree : AgreeParts rows citations archive

-- the stamp of the first version
abbrev pub first_stamp : Version → List Version → ℕ
first_stamp v [] = v.stamp
first_stamp v (w ∷ ws) = first_stamp w ws

-- what readers see is what the archive says
pub record Shows (s : Snapshot) (a : Archive) : Type 0 where
  pub dataset_is : s.dataset ≡ a.dataset
  pub schema_is : s.schema ≡ a.last.schema
  pub parts : AgreeParts s.rows s.store a
  pub founded_is : s.founded ≡ first_stamp a.last a.older
  pub updated_is : s.updated ≡ a.last.stamp

-- it is what the archive of some legal history says
pub record IsSeen (s : Snapshot) : Type 0 where
  pub history : List Entry
  pub archive : Archive
  pub leads : LeadsTo history archive
  pub shows : Shows s archive

-- what is kept is what the archive of a history says
pub record Agrees (p : Present) (history : List Entry) (a : Archive) : Type 0 where
  pub shows : Shows (arc_value p.snapshot) a
  pub numbers : (curator : List ℕ) (number : ℕ) → use_of curator number p.used ≡ batch_of curator number a.last a.older
  pub stamp_is : p.stamp ≡ a.stamp
  pub entries_are : p.entries ≡ length history
  pub journal_is : p.journal ≡ a.journal

-- the history is legal and leads to the archive, and what is kept is what it says
pub record StandsFor (p : Present) (history : List Entry) (a : Archive) : Type 0 where
  pub leads : LeadsTo history a
  pub agrees : Agrees p history a

-- it stands for some history
pub record Stands (p : Present) : Type 0 where
  pub history : List Entry
  pub archive : Archive
  pub stands : StandsFor p history archive
