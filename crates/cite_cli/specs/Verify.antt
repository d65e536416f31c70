-- What `verify` does.
use Rattle.std.specs.Prelude.{◌≡◌, ◌⊎◌, ℕ, ◌+◌, List, [], ◌∷◌, ◌++◌, length, codes}
use Rattle.std.specs.Fmt.{decimal}
use Rattle.sha2.specs.Sha256.{sha256}
use Rattle.hex.specs.Hex.{encode_lower}
use Rattle.cite_disk.specs.Device.{RoseBy}
use Rattle.archive_journal.specs.Records.{Between, Shut, Stands}
use Rattle.archive_journal.specs.Walks.{IsNoArchive}
use Rattle.entry_codec.specs.declared.entry.Entry.{Entry}
use Rattle.entry_codec.specs.Payloads.{payload}
use Rattle.archive_model.specs.Archives.{Archive, Minted, version_count}
use Rattle.archive_model.specs.Histories.{LeadsTo}
use Rattle.archive_core.specs.Keeping.{AreSpelled, MayFollow, payloads_of}
use Rattle.archive_core.specs.Opening.{IsSpoilt}
use Rattle.cite_cli.specs.declared.ending.Ending.{Ending}
use Rattle.cite_cli.specs.declared.ending.Ending.TheVariants as endings
use Rattle.cite_cli.specs.Seen.{Seen, OnDisk, IsUntaken, IsTimeless, HoldsHistory, Ends}

-- the words are `verify`
abbrev pub IsVerify : List (List ℕ) → Type 0
IsVerify words = words ≡ codes "verify" ∷ []

-- the line of a citation: its number, and the SHA-256 digest of the bytes that were minted with it
abbrev pub citation_line : ℕ → Minted → List ℕ
citation_line number m = codes "c" ++ decimal number ++ codes " " ++ encode_lower (sha256 m.bytes) ++ codes "\n"

-- the lines of citations, whose numbers go on from this one
abbrev pub citation_lines : ℕ → List Minted → List ℕ
citation_lines number [] = []
citation_lines number (m ∷ ms) = citation_line number m ++ citation_lines (number + 1) ms

-- the lines of what is counted: the number of the last version, that of the schema, the rows of the last table, the citations
abbrev pub counts : (version schema rows citations : ℕ) → List ℕ
counts version schema rows citations = codes "version " ++ decimal version ++ codes "\nschema " ++ decimal schema
    ++ codes "\nrows " ++ decimal rows ++ codes "\ncitations " ++ decimal citations ++ codes "\n"

-- what `verify` tells of an archive
abbrev pub verify_text : Archive → List ℕ
verify_text a = counts (version_count a) a.last.schema.number (length a.last.table) (length a.minted) ++ citation_lines 1 a.minted

-- the bytes stand for the history, whose entries have a spelling
abbrev pub Carries : List ℕ → List Entry → Type 0
Carries b history = AreSpelled history × Stands b (payloads_of history)

-- they stand for no legal history
abbrev pub CarriesNone : List ℕ → Type 0
CarriesNone b = (history : List Entry) (a : Archive) → LeadsTo history a → Carries b history → ⊥

-- the disk was opened: its bytes stood for the history, and it holds the history now
pub record IsResumed (disk : OnDisk) : Type 0 where
  pub history : List Entry
  pub archive : Archive
  pub leads : LeadsTo history archive
  pub carried : Carries disk.before history
  pub holds : HoldsHistory disk history

-- and this is what is told of the archive of every history for which its bytes stood
pub record IsOpened (disk : OnDisk) (text : List ℕ) : Type 0 where
  pub resumed : IsResumed disk
  pub every : (history : List Entry) (a : Archive) → LeadsTo history a → Carries disk.before history → text ≡ verify_text a

-- this is what is told of the archive of some legal history; of an honest disk, of the one for which it stands
pub record IsVerified (disk : OnDisk) (text : List ℕ) : Type 0 where
  pub history : List Entry
  pub archive : Archive
  pub leads : LeadsTo history archive
  pub text_is : text ≡ verify_text archive
  pub opened : disk.honest → IsOpened disk text

-- why a disk can't be opened: it doesn't begin as a journal, or has a bad record, and the line tells the place of its gate
pub data IsBad (disk : OnDisk) (line : List ℕ) : Type 0 where
  NoArchive : (disk.honest → IsNoArchive disk.before) → line ≡ codes "NotArchive\n" → IsBad disk line
  Spoilt : (at : ℕ) → (disk.honest → IsSpoilt disk.before at) → line ≡ codes "Damaged " ++ decimal at ++ codes "\n" → IsBad disk line

-- the disk's bytes stand for no legal history, the line tells why, and the disk was only read
pub record IsUnopened (disk : OnDisk) (line : List ℕ) : Type 0 where
  pub bad : IsBad disk line
  pub none : disk.honest → CarriesNone disk.before
  pub quiet : disk.honest → disk.quiet

-- what there is to write where the disk can't be opened
abbrev pub UnopenedWrites : OnDisk → Ending → List ℕ → Type 0
UnopenedWrites disk endings.NotArchive bytes = IsUnopened disk bytes
UnopenedWrites disk ending bytes = ⊥

-- the disk was only read
abbrev pub IsQuiet : OnDisk → Type 0
IsQuiet disk = disk.honest → disk.quiet

-- what there is to write, by the ending
abbrev pub VerifyWrites : OnDisk → Ending → List ℕ → Type 0
VerifyWrites disk endings.Done bytes = IsVerified disk bytes
VerifyWrites disk endings.NotArchive bytes = IsUnopened disk bytes
VerifyWrites disk ending bytes = ⊥

-- the disk failed
abbrev pub VerifyBreaks : OnDisk → Type 0
VerifyBreaks disk = RoseBy disk.faults_before 1 disk.faults_after

-- memory was wanting, and the disk was only read, or was opened before
abbrev pub VerifyLacks : OnDisk → Type 0
VerifyLacks disk = disk.honest → disk.quiet ⊎ IsResumed disk

-- a crash at each moment of the run leaves the files of a history that a crash before it left: those of it alone, or those of it and of it with an entry that can stand behind it
pub record LosesNothing (disk : OnDisk) : Type 0 where
  pub alone : (history : List Entry) (a : Archive) → LeadsTo history a → ((b : List ℕ) → disk.images_before b → Shut (payloads_of history) b) → disk.leaves_only (Shut (payloads_of history))
  pub with_one : (history : List Entry) (a : Archive) (e : Entry) → LeadsTo history a → MayFollow history e → ((b : List ℕ) → disk.images_before b → Between (payloads_of history) (payload e) b)
      → disk.leaves_only (Between (payloads_of history) (payload e))

-- what `verify` did: it took nothing of the source, and no moment; whatever its answer, a crash in it loses nothing
pub record Verifies (seen : Seen) (disk : OnDisk) (ending : Ending) : Type 0 where
  pub untaken : IsUntaken seen
  pub timeless : IsTimeless seen
  pub safe : disk.honest → LosesNothing disk
  pub ends : Ends (VerifyWrites disk) (VerifyBreaks disk) (VerifyLacks disk) seen ending
