-- In every archive to which a history leads, the texts of the data set and of citations keep their rules, and stamps have texts.
use Rattle.std.proofs.Common.{◌≡◌, ℕ, zero, suc, ◌+◌, ◌<◌, ◌≤◌, ◌^◌, max, true, List, [], ◌∷◌, ◌++◌, Option, Some, None, length, slice_get, refl, sym, ap, ◌∙◌, subst, arith}
use Rattle.std.specs.Prelude.{option_map}
use Rattle.std.specs.List.{AllByRecursion}
use Rattle.cite_schema.specs.Metadata.{meta_fault}
use Rattle.cite_schema.specs.declared.step.Step.{Step}
use Rattle.cite_schema.specs.declared.dataset.Issue.{Issue}
use Rattle.subset_query.specs.Checks.{query_fault}
use Rattle.entry_codec.specs.declared.entry.FoundEntry.{FoundEntry}
use Rattle.entry_codec.specs.declared.entry.Entry.{Entry}
use Rattle.entry_codec.specs.declared.entry.Entry.TheVariants.{Found, Batch, Cite, Migrate}
use Rattle.archive_model.specs.declared.answers.Refused.TheVariants as refusals
use Rattle.archive_model.specs.declared.answers.Cited.{Cited}
use Rattle.archive_model.specs.Archives.{Archive, Version, Minted, columns_of}
use Rattle.archive_model.specs.Limits.{Versions, clock_end}
use Rattle.archive_model.specs.Outcomes.{Outcome}
use Rattle.archive_model.specs.Citing.{IsAnswered, CiteStep, new_minted}
use Rattle.archive_model.specs.Migrating.{AreCarried}
use Rattle.archive_model.specs.Histories.{Makes, Runs, LeadsTo, MakesBy, found_fault, founded, batch_ask, cite_ask}
use Rattle.archive_model.specs.ArchiveLaws.{AreNumbered, NeverFall, Resolves}
use Rattle.archive_model.proofs.Lists.{all_push, all_turned}
use Rattle.archive_model.proofs.Made.{IsBatched, batched, IsCited, cited, IsMoved, moved, undecided, unrefused}
use Rattle.archive_model.proofs.Counted.{counts_keep_their_limits}
use Rattle.archive_model.proofs.Founded.{founded_told}
use Rattle.archive_model.proofs.Sound.{citations_resolve}
use Rattle.archive_state.specs.Executing.{minted_as}
use Rattle.archive_state.specs.Standing.{first_stamp}
use Rattle.archive_state.proofs.ResolveMinted.{each_minted}
use Rattle.datacite_meta.specs.Stamps.{IsStamp}
use Rattle.datacite_meta.specs.Metadata.{IsDescribed, IsIssued}

-- a citation was minted at this stamp at the latest, with metadata that keep their rules
record IsTold (stamp : ℕ) (m : Minted) : Type 0 where
  cited : m.issue.cited ≤ stamp
  updated : m.issue.updated ≤ stamp
  meta : meta_fault m.issue.meta ≡ None

told_later : (old new : ℕ) → old ≤ new → (m : Minted) → IsTold old m → IsTold new m
told_later old new le m t = record { cited = omega (arith, le, t.cited); updated = omega (arith, le, t.updated); meta = t.meta }

-- the data set is described, and each citation told
record IsWell (a : Archive) : Type 0 where
  dataset : IsDescribed a.dataset
  last : a.last.stamp ≤ a.stamp
  minted : AllByRecursion (IsTold a.stamp) a.minted

later : (a : Archive) (now : ℕ) → a.stamp ≤ max now a.stamp
later a now = omega arith

well_batch : (a : Archive) → IsWell a → (e : Entry) (b : Archive) → Makes a e b → IsWell b
well_batch a h (Found e) b k = absurd k
well_batch a h (Batch e) b k =
    let m = batched a (batch_ask e) e.stamp (Batch e) b k.1 in
    subst IsWell m.is (record {
      dataset = h.dataset;
      last = omega arith;
      minted = all_turned (IsTold a.stamp) (IsTold (max e.stamp a.stamp)) (told_later a.stamp (max e.stamp a.stamp) (later a e.stamp)) a.minted h.minted;
    })
well_batch a h (Cite e) b (o, s, k) =
    let m = cited a (cite_ask e) e.stamp o (Cite e) b s k in
    let s1 = undecided a (option_map refusals.Query (query_fault (columns_of a) e.query)) o (Cite e) b _ s k in
    let refused : option_map refusals.BadMeta (meta_fault e.meta) ≡ None = unrefused a (option_map refusals.BadMeta (meta_fault e.meta)) o (Cite e) b (IsAnswered a (cite_ask e) e.stamp o) s1 k in
    let none : meta_fault e.meta ≡ None = unmapped (meta_fault e.meta) refused in
    let newest : Minted = new_minted a (cite_ask e) e.stamp m.answered.bytes m.minting.form in
    let told : IsTold (max e.stamp a.stamp) newest = record { cited = omega arith; updated = omega (arith, h.last); meta = none } in
    subst IsWell m.is (record {
      dataset = h.dataset;
      last = omega (arith, h.last);
      minted = all_push (IsTold (max e.stamp a.stamp)) a.minted newest (all_turned (IsTold a.stamp) (IsTold (max e.stamp a.stamp)) (told_later a.stamp (max e.stamp a.stamp) (later a e.stamp)) a.minted h.minted) told;
    })
  where
    unmapped : (o : Option ℕ) → option_map refusals.BadMeta o ≡ None → o ≡ None
    unmapped None e = refl
    unmapped (Some n) e = absurd (cc)
well_batch a h (Migrate e) b (o, s, k) =
    let m = moved a e.schema e.steps e.stamp o (Migrate e) b s k in
    subst IsWell m.is (record {
      dataset = h.dataset;
      last = omega arith;
      minted = all_turned (IsTold a.stamp) (IsTold (max e.stamp a.stamp)) (told_later a.stamp (max e.stamp a.stamp) (later a e.stamp)) m.verdict.minted (carried e.steps a.minted m.verdict.minted m.verdict.carried h.minted);
    })
  where
    carried : (steps : List Step) (ms ns : List Minted) → AreCarried a steps ms ns → AllByRecursion (IsTold a.stamp) ms → AllByRecursion (IsTold a.stamp) ns
    carried steps [] [] h t = tt
    carried steps [] (y ∷ ys) h t = absurd h
    carried steps (x ∷ xs) [] h t = absurd h
    carried steps (x ∷ xs) (y ∷ ys) h t = (told_by (ap (λ (w : Minted). w.issue) h.1) t.0, carried steps xs ys h.2 t.1)
      where
        told_by : y.issue ≡ x.issue → IsTold a.stamp x → IsTold a.stamp y
        told_by same t = record { cited = subst (λ (i : Issue). i.cited ≤ a.stamp) (sym same) t.cited; updated = subst (λ (i : Issue). i.updated ≤ a.stamp) (sym same) t.updated; meta = subst (λ (i : Issue). meta_fault i.meta ≡ None) (sym same) t.meta }

well_runs : (a : Archive) (es : List Entry) (b : Archive) → IsWell a → Runs a es b → IsWell b
well_runs a [] b h k = subst IsWell k h
well_runs a (e ∷ es) b h (next, m, k) = well_runs next es b (well_batch a h e next m) k

well : (history : List Entry) (a : Archive) → LeadsTo history a → IsWell a
well [] a h = absurd h
well (Found f ∷ es) a h =
    let told = founded_told f h.0 in
    well_runs (founded f) es a (record { dataset = record { prefix = told.0; publisher = told.1; creator = told.2; title = told.3 }; last = omega arith; minted = tt }) h.1
well (Batch e ∷ es) a h = absurd h
well (Cite e ∷ es) a h = absurd h
well (Migrate e ∷ es) a h = absurd h

-- the data set of an archive is described
pub described : (history : List Entry) (a : Archive) → LeadsTo history a → IsDescribed a.dataset
described history a leads = (well history a leads).dataset

-- the stamp of its last version has a text
pub last_is_stamp : (history : List Entry) (a : Archive) → LeadsTo history a → IsStamp a.last.stamp
last_is_stamp history a leads = let c = counts_keep_their_limits history a leads in omega (arith, c.last_stamp, c.clock)

first_never_above : (v : Version) (older : List Version) → NeverFall v older → first_stamp v older ≤ v.stamp
first_never_above v [] fall = omega arith
first_never_above v (w ∷ ws) fall = let more = first_never_above w ws fall.1 in omega (arith, more, fall.0)

-- and so has that of its first one
pub first_is_stamp : (history : List Entry) (a : Archive) → LeadsTo history a → IsStamp (first_stamp a.last a.older)
first_is_stamp history a leads =
    let c = counts_keep_their_limits history a leads in
    let first = first_never_above a.last a.older c.stamps in
    omega (arith, first, c.last_stamp, c.clock)

number_at : (k place : ℕ) (ms : List Minted) (m : Minted) → AreNumbered k ms → slice_get ms place ≡ Some m → m.issue.number ≡ k + place
number_at k place [] m h e = absurd (cc)
number_at k zero (x ∷ xs) m h e =
    let same : x ≡ m = cc in
    ap (λ (w : Minted). w.issue.number) (sym same) ∙ omega (arith, h.0)
number_at k (suc place) (x ∷ xs) m h e = let more = number_at (k + 1) place xs m h.1 e in omega (arith, more)

-- the citation with a number tells that number
pub number_is : (history : List Entry) (a : Archive) (number : ℕ) (m : Minted) → LeadsTo history a → minted_as a number ≡ Some m → m.issue.number ≡ number
number_is history a zero m leads e = absurd (cc)
number_is history a (suc place) m leads e =
    let at = number_at 1 place a.minted m (counts_keep_their_limits history a leads).numbers e in omega (arith, at)

-- no citation has the number 0
pub number_above : (a : Archive) (number : ℕ) (m : Minted) → minted_as a number ≡ Some m → 1 ≤ number
number_above a zero m e = absurd (cc)
number_above a (suc place) m e = omega arith

-- what is told of a citation is issued
pub issued : (history : List Entry) (a : Archive) (number : ℕ) (m : Minted) → LeadsTo history a → minted_as a number ≡ Some m → IsIssued m.issue
issued history a number m leads e =
    let t = each_minted (IsTold a.stamp) a number m (well history a leads).minted e in
    let c = counts_keep_their_limits history a leads in
    record {
      number = subst (λ n. 1 ≤ n) (sym (number_is history a number m leads e)) (number_above a number m e);
      cited = omega (arith, t.cited, c.clock);
      updated = omega (arith, t.updated, c.clock);
      meta = t.meta;
    }

-- the version that a citation tells is one of the archive, and there are few
pub version_within : (history : List Entry) (a : Archive) (number : ℕ) (m : Minted) → LeadsTo history a → minted_as a number ≡ Some m → m.issue.version < 2 ^ 32
version_within history a number m leads e =
    let r = each_minted (Resolves a.last a.older) a number m (citations_resolve history a leads).citations e in
    let most = (counts_keep_their_limits history a leads).limits Versions in
    omega (arith, r.to, most)
