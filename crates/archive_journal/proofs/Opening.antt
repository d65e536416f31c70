-- What a crash may leave while a journal is walked to its end and finished.
use Rattle.std.proofs.Common.{◌≡◌, ◌≢◌, ◌≤◌, ℕ, List, length, sym, subst, inr, ⊎_elim}
use Rattle.std.proofs.lemmas.Bool.{cases_eq}
use Rattle.cite_disk.specs.Device.{Quiet, LeavesOnly}
use Rattle.cite_disk.proofs.Moments.{then, weaken}
use Rattle.archive_journal.specs.Laws.{AreSmall}
use Rattle.archive_journal.specs.Records.{Between, Gated}
use Rattle.archive_journal.specs.Walks.{IsAt}
use Rattle.archive_journal.proofs.Unique.{ended_gated}

module _ {D : Type 0} (seen : D → List ℕ) (images : D → List ℕ → Type 0) (moment : D → ℕ) (left_since : D → ℕ → List ℕ → Type 0) where
  -- a quiet walk, and then a finish
  pub opened : (old mid new : D) (ps qs : List (List ℕ)) (p : List ℕ) (at gate : ℕ) → Quiet seen images moment left_since old mid → images mid (seen mid)
      → ((b : List ℕ) → images old b → Between ps p b) → AreSmall ps → length p ≤ 16777216 → AreSmall qs → IsAt (seen mid) qs at gate → gate ≢ 1 → (gate ≡ 0 → new ≡ mid)
      → (Gated qs p (seen mid) → LeavesOnly moment left_since mid new (Gated qs p)) → LeavesOnly moment left_since old new (Between ps p)
  opened old mid new ps qs p at gate quiet here each small small_p small_q is shut untouched run =
      let walked : LeavesOnly moment left_since old mid (Between ps p) = weaken moment left_since old mid (images old) (Between ps p) quiet.moments each in
      ⊎_elim
      (λ zero. subst (λ (d : D). LeavesOnly moment left_since old d (Between ps p)) (sym (untouched zero)) walked)
      (λ other.
      let e : Gated ps p (seen mid) × (qs ≡ ps) = ended_gated (seen mid) ps qs p at gate small small_p small_q (each (seen mid) (quiet.within (seen mid) here)) is shut other in
      then moment left_since old mid new (Between ps p) (Gated qs p) walked (run (subst (λ (l : List (List ℕ)). Gated l p (seen mid)) (sym e.1) e.0))
      (λ b g. inr (subst (λ (l : List (List ℕ)). Gated l p b) e.1 g)))
      (cases_eq gate 0)
