-- A citation and a migration have one outcome at most.
use Rattle.std.proofs.Common.{◌≡◌, ℕ, zero, suc, ◌+◌, ◌⊎◌, inl, inr, List, [], ◌∷◌, Option, Some, None, Result, refl, sym, ap, ◌∙◌, subst}
use Rattle.std.specs.Prelude.{Ok, Err, true, false, length, nat_lt, option_map}
use Rattle.std.specs.List.{AllByRecursion}
use Rattle.cite_schema.specs.Answers.{Gives, Alike}
use Rattle.cite_schema.specs.Queries.{asked}
use Rattle.cite_schema.specs.Metadata.{meta_fault}
use Rattle.cite_schema.specs.Tests.{demand}
use Rattle.cite_schema.specs.declared.step.Step.{Step}
use Rattle.cite_schema.specs.declared.query.CiteAsk.{CiteAsk}
use Rattle.cite_schema.proofs.Answered.{one_text}
use Rattle.subset_query.specs.declared.form.Normal.{Normal}
use Rattle.subset_query.specs.Forms.{formed}
use Rattle.subset_query.specs.Checks.{query_fault}
use Rattle.subset_query.proofs.Alikes.{alike_back, alike_on}
use Rattle.subset_query.proofs.Central.{one_form}
use Rattle.migration.proofs.OneCarried.{carried_to_one}
use Rattle.archive_model.specs.declared.answers.Refused.{Refused}
use Rattle.archive_model.specs.declared.answers.Refused.TheVariants as refusals
use Rattle.archive_model.specs.declared.answers.Cited.{Cited}
use Rattle.archive_model.specs.declared.answers.Moved.{Moved}
use Rattle.archive_model.specs.Archives.{Archive, Minted, columns_of, version_count}
use Rattle.archive_model.specs.Limits.{clock_end}
use Rattle.archive_model.specs.Outcomes.{Outcome, refuses, repeats, makes, RefusedOr}
use Rattle.archive_model.specs.Citing.{IsFirst, Fits, Misses, cite_entry, new_citation, IsRepeat, IsMinting, too_large, IsAnswered, CiteStep}
use Rattle.archive_model.specs.Migrating.{migrate_entry, new_migration, IsCarried, Stays, IsHarmed, AreCarried, NamesHarmed, IsMigrated, AreVerified, MigrateStep}
use Rattle.archive_model.specs.ArchiveLaws.{CitesOnce, MigratesOnce, StepsHaveOneOutcome}

-- a refusal is one, and what follows decides where there is none
decided_once : {R : Type 0} (a : Archive) (r : Option Refused) (o p : Outcome R) (P Q : Type 0) → RefusedOr a r o P → RefusedOr a r p Q → (P → Q → o ≡ p) → o ≡ p
decided_once a None o p P Q h k more = more h k
decided_once a (Some x) o p P Q h k more = h ∙ sym k

module _ (Miss Hit : Minted → Type 0) (apart : (m : Minted) → Miss m → Hit m → ⊥) where
  -- the first hit is at one place
  first_once : (ms : List Minted) (i j : ℕ) → IsFirst Miss Hit ms i → IsFirst Miss Hit ms j → i ≡ j
  first_once [] i j h k = absurd h
  first_once (m ∷ ms) zero zero h k = refl
  first_once (m ∷ ms) zero (suc j) h k = absurd (apart m k.0 h)
  first_once (m ∷ ms) (suc i) zero h k = absurd (apart m h.0 k)
  first_once (m ∷ ms) (suc i) (suc j) h k = ap suc (first_once ms i j h.1 k.1)

  -- there is none where all miss
  never_first : (ms : List Minted) (i : ℕ) → AllByRecursion Miss ms → IsFirst Miss Hit ms i → ⊥
  never_first [] i all h = h
  never_first (m ∷ ms) zero all h = apart m all.0 h
  never_first (m ∷ ms) (suc i) all h = never_first ms i all.1 h.1

module _ (a : Archive) (ask : CiteAsk) (now : ℕ) (o p : Outcome Cited) where
  one_minting : (bytes : List ℕ) → IsMinting a ask now bytes o → IsMinting a ask now bytes p → o ≡ p
  one_minting bytes m l =
      let query = asked (columns_of a) ask.query in
      let same : m.form ≡ l.form = one_form (columns_of a) m.form l.form m.settled l.settled
      (alike_on (columns_of a) (formed m.form) query (formed l.form) (alike_back (columns_of a) query (formed m.form) m.alike) l.alike) in
      m.outcome ∙ ap (λ f. makes a (cite_entry a ask now bytes) (record { number = length a.minted + 1; new = true }) (new_citation a ask now bytes f)) same ∙ sym l.outcome

  one_repeat : (bytes : List ℕ) → IsRepeat a ask bytes o → IsRepeat a ask bytes p → o ≡ p
  one_repeat bytes r s =
      let same : r.place ≡ s.place = first_once (Misses a ask bytes) (Fits a ask bytes) (λ m miss hit. miss hit) a.minted r.place s.place r.first s.first in
      r.outcome ∙ ap (λ n. repeats a (record { number = n + 1; new = false })) same ∙ sym s.outcome

  not_both : (bytes : List ℕ) (x y : Outcome Cited) → IsRepeat a ask bytes x → IsMinting a ask now bytes y → ⊥
  not_both bytes x y r m = never_first (Misses a ask bytes) (Fits a ask bytes) (λ n miss hit. miss hit) a.minted r.place m.none r.first

  one_decision : (bytes : List ℕ) → IsRepeat a ask bytes o ⊎ IsMinting a ask now bytes o → IsRepeat a ask bytes p ⊎ IsMinting a ask now bytes p → o ≡ p
  one_decision bytes (inl r) (inl s) = one_repeat bytes r s
  one_decision bytes (inl r) (inr m) = absurd (not_both bytes o p r m)
  one_decision bytes (inr m) (inl r) = absurd (not_both bytes p o r m)
  one_decision bytes (inr m) (inr l) = one_minting bytes m l

  abbrev Decided : Outcome Cited → List ℕ → Type 0
  Decided x bytes = RefusedOr a (too_large bytes) x (IsRepeat a ask bytes x ⊎ IsMinting a ask now bytes x)

  answered_once : IsAnswered a ask now o → IsAnswered a ask now p → o ≡ p
  answered_once h k =
      let same : k.bytes ≡ h.bytes = one_text (asked (columns_of a) ask.query) a.last.table k.bytes h.bytes k.gives h.gives in
      decided_once a (too_large h.bytes) o p _ _ h.decided (subst (Decided p) same k.decided) (one_decision h.bytes)

pub cites_once : CitesOnce
cites_once a ask now o p h k =
    decided_once a (option_map refusals.Query (query_fault (columns_of a) ask.query)) o p _ _ h k (λ h1 k1.
    decided_once a (option_map refusals.BadMeta (meta_fault ask.meta)) o p _ _ h1 k1 (answered_once a ask now o p))

module _ (a : Archive) (steps : List Step) where
  all_stay : (ms ks : List Minted) → AreCarried a steps ms ks → AllByRecursion (Stays a steps) ms
  all_stay [] [] h = tt
  all_stay [] (k ∷ ks) h = absurd h
  all_stay (m ∷ ms) [] h = absurd h
  all_stay (m ∷ ms) (k ∷ ks) h = ((k.form, h.0), all_stay ms ks h.2)

  -- citations are carried in one way
  pub carried_once : (ms ks ls : List Minted) → AreCarried a steps ms ks → AreCarried a steps ms ls → ks ≡ ls
  carried_once [] [] [] h g = refl
  carried_once [] [] (l ∷ ls) h g = absurd g
  carried_once [] (k ∷ ks) ls h g = absurd h
  carried_once (m ∷ ms) [] ls h g = absurd h
  carried_once (m ∷ ms) (k ∷ ks) [] h g = absurd g
  carried_once (m ∷ ms) (k ∷ ks) (l ∷ ls) h g =
      let form : k.form ≡ l.form = carried_to_one (columns_of a) steps m.form k.form l.form h.0.carries g.0.carries in
      let one : k ≡ l = h.1 ∙ ap (λ f. record m { form = f }) form ∙ sym g.1 in
      ap (λ x. x ∷ ks) one ∙ ap (λ xs. l ∷ xs) (carried_once ms ks ls h.2 g.2)

  module _ (now : ℕ) (o p : Outcome Moved) where
    abbrev Decides : Archive → Outcome Moved → Type 0
    Decides next x = NamesHarmed a steps x ⊎ IsMigrated a steps now next x

    one_verdict : (next : Archive) → Decides next o → Decides next p → o ≡ p
    one_verdict next (inl x) (inl y) =
        let same : x.place ≡ y.place = first_once (Stays a steps) (IsHarmed a steps) (λ m stays harmed. harmed stays) a.minted x.place y.place x.first y.first in
        x.outcome ∙ ap (λ n. refuses a (refusals.CitedSubset (n + 1))) same ∙ sym y.outcome
    one_verdict next (inl x) (inr m) = absurd (never_first (Stays a steps) (IsHarmed a steps) (λ n stays harmed. harmed stays) a.minted x.place (all_stay a.minted m.minted m.carried) x.first)
    one_verdict next (inr m) (inl x) = absurd (never_first (Stays a steps) (IsHarmed a steps) (λ n stays harmed. harmed stays) a.minted x.place (all_stay a.minted m.minted m.carried) x.first)
    one_verdict next (inr m) (inr l) =
        let same : m.minted ≡ l.minted = carried_once a.minted m.minted l.minted m.carried l.carried in
        m.outcome
        ∙ ap (λ ms. makes a (migrate_entry a steps now) (record { schema = next.last.schema.number; version = version_count next }) (demand (nat_lt now clock_end) (refusals.ClockRange now) (Ok (record next { minted = ms })))) same
        ∙ sym l.outcome

    verified_once : (r : Result Archive Refused) → AreVerified a steps now r o → AreVerified a steps now r p → o ≡ p
    verified_once (Err x) h k = h ∙ sym k
    verified_once (Ok next) h k = one_verdict next h k

pub migrates_once : MigratesOnce
migrates_once a schema steps now o p h k = verified_once a steps now o p (new_migration a schema steps now) h k

pub both : StepsHaveOneOutcome
both = (cites_once, migrates_once)
