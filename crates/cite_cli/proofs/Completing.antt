-- Where nothing fails, a run of `init` or `verify` is done, or memory was wanting.
use Rattle.std.proofs.Common.{◌≡◌, ◌<◌, ◌∙◌, ℕ, List, [], ◌∷◌, Some, None, length, map, codes, inl, inr, refl, sym, ap, subst, arith}
use Rattle.cite_ports.specs.Ports.{Holds}
use Rattle.cite_schema.specs.declared.schema.Column.{Column}
use Rattle.cite_schema.specs.declared.dataset.Dataset.{Dataset}
use Rattle.entry_codec.specs.declared.entry.FoundEntry.{FoundEntry}
use Rattle.entry_codec.specs.declared.entry.Entry.{Entry}
use Rattle.archive_model.specs.declared.answers.FoundFault.{FoundFault}
use Rattle.archive_model.specs.Archives.{Archive}
use Rattle.archive_model.specs.Histories.{LeadsTo, found_fault}
use Rattle.cite_cli.specs.declared.ending.Ending.{Ending}
use Rattle.cite_cli.specs.declared.ending.Ending.TheVariants as endings
use Rattle.cite_cli.specs.Seen.{Seen, OnDisk, Ends}
use Rattle.cite_cli.specs.Seen.Ends.{Whole, Cut, Fails, Wants}
use Rattle.cite_cli.specs.Init.{said_column, IsInit, IsUnbroken, InitWrites, InitBreaks, InitLacks, Inits, name_line}
use Rattle.cite_cli.specs.Verify.{IsVerify, Verifies, VerifyWrites, VerifyBreaks, VerifyLacks, Carries, verify_text}
use Rattle.cite_cli.specs.Run.{status_of, IsRun, Answers}
use Rattle.cite_cli.specs.Run.IsRun.{BySelect, ByInit, ByVerify, BySession}
use Rattle.cite_cli.specs.Completing.{IsFaultless, IsDoneWith, InitCompletes, VerifyCompletes}

pub first_of : (a b : List ℕ) (ws vs : List (List ℕ)) → a ∷ ws ≡ b ∷ vs → a ≡ b
first_of a b ws vs e = cc

-- the words of one command are not those of another
select_no_init : (ws vs : List (List ℕ)) → codes "select" ∷ ws ≡ codes "init" ∷ vs → ⊥
select_no_init ws vs e =
    let same : 6 ≡ 4 = ap length (first_of (codes "select") (codes "init") ws vs e) in
    absurd (omega (arith, same))

pub verify_no_more : (w v x : List ℕ) (vs : List (List ℕ)) → w ∷ [] ≡ v ∷ x ∷ vs → ⊥
verify_no_more w v x vs e = absurd (cc)

same_dataset : (d e : Dataset) → d.prefix ≡ e.prefix → d.publisher ≡ e.publisher → d.creator ≡ e.creator → d.title ≡ e.title → d ≡ e
same_dataset d e p q r s =
    ap (λ (x : List ℕ). let o : Dataset = record { prefix = x; publisher = d.publisher; creator = d.creator; title = d.title } in o) p
    ∙ ap (λ (x : List ℕ). let o : Dataset = record { prefix = e.prefix; publisher = x; creator = d.creator; title = d.title } in o) q
    ∙ ap (λ (x : List ℕ). let o : Dataset = record { prefix = e.prefix; publisher = e.publisher; creator = x; title = d.title } in o) r
    ∙ ap (λ (x : List ℕ). let o : Dataset = record { prefix = e.prefix; publisher = e.publisher; creator = e.creator; title = x } in o) s

-- the words of an `init` say one founding
one_init : (words : List (List ℕ)) (d e : Dataset) (cs bs : List Column) → IsInit words d cs → IsInit words e bs → (d ≡ e) × (cs ≡ bs)
one_init words d e cs bs i j =
    let both : codes "init" ∷ d.prefix ∷ d.publisher ∷ d.creator ∷ d.title ∷ i.first ∷ i.more ≡ codes "init" ∷ e.prefix ∷ e.publisher ∷ e.creator ∷ e.title ∷ j.first ∷ j.more = sym i.words_are ∙ j.words_are in
    let p : d.prefix ≡ e.prefix = cc in
    let q : d.publisher ≡ e.publisher = cc in
    let r : d.creator ≡ e.creator = cc in
    let s : d.title ≡ e.title = cc in
    let rest : i.first ∷ i.more ≡ j.first ∷ j.more = cc in
    (same_dataset d e p q r s, i.columns_are ∙ ap (map said_column) rest ∙ sym j.columns_are)

by_init : (words : List (List ℕ)) (seen : Seen) (disk : OnDisk) (ending : Ending) (dataset : Dataset) (columns : List Column) → IsRun words seen disk ending → IsInit words dataset columns → Inits dataset columns seen disk ending
by_init words seen disk ending dataset columns (BySelect column bounds form apart did) is =
    absurd (select_no_init (column ∷ form.low ∷ form.high ∷ []) (dataset.prefix ∷ dataset.publisher ∷ dataset.creator ∷ dataset.title ∷ is.first ∷ is.more) (sym form.words_are ∙ is.words_are))
by_init words seen disk ending dataset columns (ByInit d cs form did) is =
    let (p, q) = one_init words d dataset cs columns form is in
    subst (λ (x : Dataset). Inits x columns seen disk ending) p (subst (λ (x : List Column). Inits d x seen disk ending) q did)
by_init words seen disk ending dataset columns (ByVerify form did) is =
    absurd (verify_no_more (codes "verify") (codes "init") dataset.prefix (dataset.publisher ∷ dataset.creator ∷ dataset.title ∷ is.first ∷ is.more) (sym form ∙ is.words_are))
by_init words seen disk ending dataset columns (BySession form did) is =
    absurd (verify_no_more (codes "session") (codes "init") dataset.prefix (dataset.publisher ∷ dataset.creator ∷ dataset.title ∷ is.first ∷ is.more) (sym form ∙ is.words_are))

by_verify : (words : List (List ℕ)) (seen : Seen) (disk : OnDisk) (ending : Ending) → IsRun words seen disk ending → IsVerify words → Verifies seen disk ending
by_verify words seen disk ending (BySelect column bounds form apart did) is =
    absurd (verify_no_more (codes "verify") (codes "select") column (form.low ∷ form.high ∷ []) (sym is ∙ form.words_are))
by_verify words seen disk ending (ByInit d cs form did) is =
    absurd (verify_no_more (codes "verify") (codes "init") d.prefix (d.publisher ∷ d.creator ∷ d.title ∷ form.first ∷ form.more) (sym is ∙ form.words_are))
by_verify words seen disk ending (ByVerify form did) is = did
by_verify words seen disk ending (BySession form did) is =
    let same : 7 ≡ 6 = ap length (first_of (codes "session") (codes "verify") [] [] (sym form ∙ is)) in
    absurd (omega (arith, same))

no_rule : (f : FoundEntry) (fault : FoundFault) → IsUnbroken f → found_fault f.dataset f.columns f.stamp ≡ Some fault → ⊥
no_rule f fault none some = absurd (cc)

module _ (f : FoundEntry) (disk : OnDisk) (seen : Seen) (unbroken : IsUnbroken f) (honest : disk.honest) (empty : length disk.before ≡ 0) where
  whole_init : (ending : Ending) (bytes : List ℕ) → InitWrites f disk ending bytes → Holds bytes seen.written_before seen.written_after → IsDoneWith (name_line f.dataset) seen (status_of ending)
  whole_init endings.Done bytes writes holds = inl (refl, subst (λ (l : List ℕ). Holds l seen.written_before seen.written_after) writes.1 holds)
  whole_init endings.Refused bytes writes holds = absurd (no_rule f writes.fault unbroken writes.broken)
  whole_init endings.Occupied bytes writes holds =
      let full : 0 < length disk.before = writes.0.full honest in
      absurd (omega (arith, full, empty))
  whole_init endings.Usage bytes writes holds = absurd writes
  whole_init endings.ReadFault bytes writes holds = absurd writes
  whole_init endings.WriteFault bytes writes holds = absurd writes
  whole_init endings.DiskFault bytes writes holds = absurd writes
  whole_init endings.NotArchive bytes writes holds = absurd writes
  whole_init endings.NoMemory bytes writes holds = absurd writes
  whole_init endings.TooLong bytes writes holds = absurd writes
  whole_init endings.Cut bytes writes holds = absurd writes
  whole_init endings.Broken bytes writes holds = absurd writes

  init_ends : (ending : Ending) → IsFaultless seen disk → Ends (InitWrites f disk) (InitBreaks f disk) (InitLacks disk) seen ending → IsDoneWith (name_line f.dataset) seen (status_of ending)
  init_ends ending well (Whole bytes writes holds) = whole_init ending bytes writes holds
  init_ends ending well (Cut due bytes writes is rose front) = absurd (well.sink_kept rose)
  init_ends ending well (Fails is breaks silent) = absurd (well.disk_kept breaks.1)
  init_ends ending well (Wants is lacks silent) = inr (ap status_of is)

pub init_completes : (disk : OnDisk) → InitCompletes disk
init_completes disk words seen status dataset columns (inl usage) is unbroken honest empty well = absurd (usage.1.none.no_init dataset columns is)
init_completes disk words seen status dataset columns (inr ran) is unbroken honest empty well =
    let did = by_init words seen disk ran.0 dataset columns ran.2 is in
    subst (λ (n : ℕ). IsDoneWith (name_line dataset) seen n) (sym ran.1)
    (init_ends (record { stamp = did.moment; dataset = dataset; columns = columns }) disk seen (unbroken did.moment did.asked) honest empty ran.0 well did.ends)

module _ (disk : OnDisk) (seen : Seen) (history : List Entry) (a : Archive) (leads : LeadsTo history a) (carried : Carries disk.before history) (honest : disk.honest) where
  whole_verify : (ending : Ending) (bytes : List ℕ) → VerifyWrites disk ending bytes → Holds bytes seen.written_before seen.written_after → IsDoneWith (verify_text a) seen (status_of ending)
  whole_verify endings.Done bytes writes holds = inl (refl, subst (λ (l : List ℕ). Holds l seen.written_before seen.written_after) ((writes.opened honest).every history a leads carried) holds)
  whole_verify endings.NotArchive bytes writes holds = absurd (writes.none honest history a leads carried)
  whole_verify endings.Refused bytes writes holds = absurd writes
  whole_verify endings.Occupied bytes writes holds = absurd writes
  whole_verify endings.Usage bytes writes holds = absurd writes
  whole_verify endings.ReadFault bytes writes holds = absurd writes
  whole_verify endings.WriteFault bytes writes holds = absurd writes
  whole_verify endings.DiskFault bytes writes holds = absurd writes
  whole_verify endings.NoMemory bytes writes holds = absurd writes
  whole_verify endings.TooLong bytes writes holds = absurd writes
  whole_verify endings.Cut bytes writes holds = absurd writes
  whole_verify endings.Broken bytes writes holds = absurd writes

  verify_ends : (ending : Ending) → IsFaultless seen disk → Ends (VerifyWrites disk) (VerifyBreaks disk) (VerifyLacks disk) seen ending → IsDoneWith (verify_text a) seen (status_of ending)
  verify_ends ending well (Whole bytes writes holds) = whole_verify ending bytes writes holds
  verify_ends ending well (Cut due bytes writes is rose front) = absurd (well.sink_kept rose)
  verify_ends ending well (Fails is breaks silent) = absurd (well.disk_kept breaks)
  verify_ends ending well (Wants is lacks silent) = inr (ap status_of is)

pub verify_completes : (disk : OnDisk) → VerifyCompletes disk
verify_completes disk words seen status history a (inl usage) is leads carried honest well = absurd (usage.1.none.no_verify is)
verify_completes disk words seen status history a (inr ran) is leads carried honest well =
    let did = by_verify words seen disk ran.0 ran.2 is in
    subst (λ (n : ℕ). IsDoneWith (verify_text a) seen n) (sym ran.1) (verify_ends disk seen history a leads carried honest ran.0 well did.ends)
