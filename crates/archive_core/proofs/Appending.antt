-- What settling a journal and committing to it leave.
use Rattle.std.proofs.Common.{◌≡◌, ◌≢◌, ◌⊎◌, inl, inr, ⊎_elim, ℕ, List, refl, sym, subst}
use Rattle.cite_disk.specs.Device.{LeavesOnly}
use Rattle.cite_disk.proofs.Moments.{started, then, weaken}
use Rattle.archive_journal.specs.declared.journal.Journal.{Journal}
use Rattle.archive_journal.specs.declared.journal.Stage.{Stage}
use Rattle.archive_journal.specs.declared.journal.Stage.TheVariants.{Settled, Staged, Opened}
use Rattle.archive_journal.specs.Records.{Between, Shut, Gated}
use Rattle.archive_journal.specs.Stands.{DiskStands, Image}
use Rattle.archive_core.specs.Keeping.{MayLeave}

-- a journal is settled or not
pub settled_or_not : (s : Stage) → (s ≡ Settled) ⊎ (s ≢ Settled)
settled_or_not Settled = inl refl
settled_or_not Staged = inr (λ e. cc)
settled_or_not Opened = inr (λ e. cc)

image_may_at : (s : Stage) (ps : List (List ℕ)) (p q b : List ℕ) → Image s ps p b → Shut ps b ⊎ (((s ≢ Settled) × Gated ps p b) ⊎ Gated ps q b)
image_may_at Settled ps p q b i = inl i
image_may_at Staged ps p q b i = inl i
image_may_at Opened ps p q b i = inr (inl ((λ e. cc), i))

-- what a crash may leave before a call, it may leave in it
pub image_may : (j : Journal) (ps : List (List ℕ)) (p q b : List ℕ) → Image j.stage ps p b → MayLeave j ps p q b
image_may j ps p q b i = image_may_at j.stage ps p q b i

-- what may be left while an unsettled journal is settled
pub between_may : (j : Journal) (ps : List (List ℕ)) (p q b : List ℕ) → j.stage ≢ Settled → Between ps p b → MayLeave j ps p q b
between_may j ps p q b unsettled (inl shut) = inl shut
between_may j ps p q b unsettled (inr gated) = inr (inl (unsettled, gated))

-- what may be left while a payload is committed
pub committing_may : (j : Journal) (ps : List (List ℕ)) (p q b : List ℕ) → Between ps q b → MayLeave j ps p q b
committing_may j ps p q b (inl shut) = inl shut
committing_may j ps p q b (inr gated) = inr (inr gated)

module _ {D : Type 0} (images : D → List ℕ → Type 0) (moment : D → ℕ) (left_since : D → ℕ → List ℕ → Type 0)
    (only_now : (d : D) (b : List ℕ) → left_since d (moment d) b → images d b) (ps : List (List ℕ)) (p q : List ℕ) where
  -- settling touches nothing in a settled journal, and else leaves what it may
  pub settles : (old mid : D) (j : Journal) → DiskStands (images old) j ps p → (j.stage ≡ Settled → mid ≡ old) → LeavesOnly moment left_since old mid (Between ps p)
      → LeavesOnly moment left_since old mid (MayLeave j ps p q)
  settles old mid j stands idle run =
      ⊎_elim
      (λ settled. subst (λ (d : D). LeavesOnly moment left_since old d (MayLeave j ps p q)) (sym (idle settled))
      (started moment left_since old (MayLeave j ps p q) (λ b left. image_may j ps p q b (stands.each b (only_now old b left)))))
      (λ unsettled. weaken moment left_since old mid (Between ps p) (MayLeave j ps p q) run (λ b between. between_may j ps p q b unsettled between))
      (settled_or_not j.stage)

  -- and then the commit
  pub settles_and_adds : (old mid new : D) (j : Journal) → DiskStands (images old) j ps p → (j.stage ≡ Settled → mid ≡ old) → LeavesOnly moment left_since old mid (Between ps p)
      → LeavesOnly moment left_since mid new (Between ps q) → LeavesOnly moment left_since old new (MayLeave j ps p q)
  settles_and_adds old mid new j stands idle first second =
      then moment left_since old mid new (MayLeave j ps p q) (Between ps q) (settles old mid j stands idle first) second (λ b between. committing_may j ps p q b between)

  -- without a call a crash leaves what it might have left before
  pub untouched : (old new : D) (P : List ℕ → Type 0) → new ≡ old → ((b : List ℕ) → images old b → P b) → LeavesOnly moment left_since old new P
  untouched old new P same each =
      subst (λ (d : D). LeavesOnly moment left_since old d P) (sym same) (started moment left_since old P (λ b left. each b (only_now old b left)))
