-- What the archive does with a request for a citation, from the parts of its plan.
use Rattle.std.proofs.Common.{◌≡◌, ◌<◌, ◌≤◌, ◌+◌, ◌⊎◌, inl, inr, ℕ, zero, suc, max, Bool, true, false, not, List, [], ◌∷◌, ◌++◌, Option, Some, None, Result, length, refl, sym, ap, subst, arith}
use Rattle.std.specs.Prelude.{Ok, nat_lt, option_map, if◌then◌else◌}
use Rattle.std.specs.List.{AllByRecursion}
use Rattle.std.proofs.lemmas.Bool.Decides.{nat_tests}
use Rattle.sha2.specs.Sha256.{sha256}
use Rattle.cite_schema.specs.Answers.{Gives, Alike}
use Rattle.cite_schema.specs.Metadata.{meta_fault}
use Rattle.cite_schema.specs.Queries.{asked}
use Rattle.cite_schema.specs.Tests.{demand, unless}
use Rattle.cite_schema.specs.declared.query.CiteAsk.{CiteAsk}
use Rattle.entry_codec.specs.declared.entry.Entry.{Entry}
use Rattle.entry_codec.specs.declared.entry.Entry.TheVariants as entries
use Rattle.entry_codec.specs.Payloads.{payload, record_length}
use Rattle.subset_query.specs.Checks.{query_fault}
use Rattle.subset_query.specs.Forms.{formed}
use Rattle.subset_query.specs.declared.checks.QueryFault.{QueryFault}
use Rattle.subset_query.specs.declared.form.Normal.{Normal}
use Rattle.subset_query.proofs.Alikes.{alike_back, alike_on}
use Rattle.subset_query.proofs.Central.{one_form}
use Rattle.archive_model.specs.declared.answers.Cited.{Cited}
use Rattle.archive_model.specs.declared.answers.Refused.{Refused}
use Rattle.archive_model.specs.declared.answers.Refused.TheVariants as refusals
use Rattle.archive_model.specs.Archives.{Archive, Minted, columns_of, version_count}
use Rattle.archive_model.specs.ArchiveLaws.{Resolves}
use Rattle.archive_model.specs.Citing.{IsFirst, Fits, Misses, cite_entry, new_citation, IsRepeat, IsMinting, too_large, IsAnswered, CiteStep}
use Rattle.archive_model.specs.Histories.{LeadsTo}
use Rattle.archive_model.specs.Limits.{Citations, JournalBytes, clock_end}
use Rattle.archive_model.specs.Outcomes.{Outcome, refuses, repeats, makes, RefusedOr, stamped, over}
use Rattle.archive_model.proofs.Sound.{citations_resolve, last_fits}
use Rattle.archive_state.specs.Citations.{IsFormOf, Has, Lacks, TellsFirst}
use Rattle.archive_state.specs.Executing.{IsOver}

-- the first of some elements, where hits hit and misses miss in another sense too
first_turned : (R Miss Hit Miss' Hit' : Minted → Type 0) → ((m : Minted) → R m → Miss m → Miss' m) → ((m : Minted) → Hit m → Hit' m)
    → (ms : List Minted) (n : ℕ) → AllByRecursion R ms → IsFirst Miss Hit ms n → IsFirst Miss' Hit' ms n
first_turned R Miss Hit Miss' Hit' miss hit [] n r h = absurd h
first_turned R Miss Hit Miss' Hit' miss hit (m ∷ ms) zero r h = hit m h
first_turned R Miss Hit Miss' Hit' miss hit (m ∷ ms) (suc n) r h = (miss m r.0 h.0, first_turned R Miss Hit Miss' Hit' miss hit ms n r.1 h.1)

-- what holds of all holds of all in another sense
all_turned_by : (R P Q : Minted → Type 0) → ((m : Minted) → R m → P m → Q m) → (ms : List Minted) → AllByRecursion R ms → AllByRecursion P ms → AllByRecursion Q ms
all_turned_by R P Q turn [] r h = tt
all_turned_by R P Q turn (m ∷ ms) r h = (turn m r.0 h.0, all_turned_by R P Q turn ms r.1 h.1)

-- the test of a limit fails within it, and holds above it
not_over : (most n : ℕ) → n ≤ most → nat_lt most n ≡ false
not_over most n h = grind (arith, nat_tests)

is_over : (most n : ℕ) → most < n → nat_lt most n ≡ true
is_over most n h = grind (arith, nat_tests)

-- a result that is not too large is not refused, and one that is is
fine_size : (bytes : List ℕ) → length bytes ≤ 67108864 → too_large bytes ≡ None
fine_size bytes h = ap (λ b. if b then Some (refusals.ResultTooLarge (length bytes)) else None) (not_over 67108864 (length bytes) h)

over_size : (bytes : List ℕ) → 67108864 < length bytes → too_large bytes ≡ Some (refusals.ResultTooLarge (length bytes))
over_size bytes h = ap (λ b. if b then Some (refusals.ResultTooLarge (length bytes)) else None) (is_over 67108864 (length bytes) h)

module _ (history : List Entry) (a : Archive) (leads : LeadsTo history a) (ask : CiteAsk) where
  -- what the bytes decide is the outcome, where the query and the metadata break no rule
  answered : (now : ℕ) (o : Outcome Cited) → query_fault (columns_of a) ask.query ≡ None → meta_fault ask.meta ≡ None → IsAnswered a ask now o → CiteStep a ask now o
  answered now o checked told h =
      subst (λ f. RefusedOr a (option_map refusals.Query f) o (RefusedOr a (option_map refusals.BadMeta (meta_fault ask.meta)) o (IsAnswered a ask now o))) (sym checked) (
      subst (λ f. RefusedOr a (option_map refusals.BadMeta f) o (IsAnswered a ask now o)) (sym told) h)

  -- a query that breaks a rule is refused by it
  pub query_refused : (now : ℕ) (fault : QueryFault) → query_fault (columns_of a) ask.query ≡ Some fault → CiteStep a ask now (refuses a (refusals.Query fault))
  query_refused now fault e =
      let o : Outcome Cited = refuses a (refusals.Query fault) in
      subst (λ f. RefusedOr a (option_map refusals.Query f) o (RefusedOr a (option_map refusals.BadMeta (meta_fault ask.meta)) o (IsAnswered a ask now o))) (sym e) refl

  -- metadata that break a rule are refused by it
  pub meta_refused : (now part : ℕ) → query_fault (columns_of a) ask.query ≡ None → meta_fault ask.meta ≡ Some part → CiteStep a ask now (refuses a (refusals.BadMeta part))
  meta_refused now part checked e =
      let o : Outcome Cited = refuses a (refusals.BadMeta part) in
      subst (λ f. RefusedOr a (option_map refusals.Query f) o (RefusedOr a (option_map refusals.BadMeta (meta_fault ask.meta)) o (IsAnswered a ask now o))) (sym checked) (
      subst (λ f. RefusedOr a (option_map refusals.BadMeta f) o (IsAnswered a ask now o)) (sym e) refl)

  module _ (form : Normal) (is_form : IsFormOf (columns_of a) ask form) where
    -- a citation with the form that gave the bytes fits, and one that has not does not
    has_fits : (bytes : List ℕ) (m : Minted) → Has form bytes m → Fits a ask bytes m
    has_fits bytes m has = (
      has.1,
      alike_back (columns_of a) (asked (columns_of a) ask.query) (formed m.form) (subst (λ f. Alike (columns_of a) (asked (columns_of a) ask.query) (formed f)) (sym has.0) is_form.alike),
    )

    lacks_misses : (bytes : List ℕ) (m : Minted) → Resolves a.last a.older m → Lacks form bytes m → Misses a ask bytes m
    lacks_misses bytes m r lacks fits = lacks (one_form (columns_of a) m.form form r.settled is_form.settled (alike_on (columns_of a) (formed m.form) (asked (columns_of a) ask.query) (formed form) fits.1 is_form.alike), fits.0)

    -- the bytes of the form on the last table are those of the query
    asked_gives : (bytes : List ℕ) → Gives (formed form) a.last.table bytes → Gives (asked (columns_of a) ask.query) a.last.table bytes
    asked_gives bytes gives = (is_form.alike a.last.table (last_fits a (citations_resolve history a leads)) bytes).1 gives

    -- a result that is too large is refused
    pub size_refused : (now size : ℕ) → IsOver (formed form) a.last.table size → CiteStep a ask now (refuses a (refusals.ResultTooLarge size))
    size_refused now size large =
        let o : Outcome Cited = refuses a (refusals.ResultTooLarge size) in
        answered now o is_form.checked is_form.told (record {
          bytes = large.bytes;
          gives = asked_gives large.bytes large.gives;
          decided = subst (λ f. RefusedOr a f o (IsRepeat a ask large.bytes o ⊎ IsMinting a ask now large.bytes o)) (sym (over_size large.bytes (subst (λ n. 67108864 < n) large.size_is large.over))) (ap (λ n. refuses {R = Cited} a (refusals.ResultTooLarge n)) large.size_is);
        })

    module _ (now : ℕ) (bytes : List ℕ) (gives : Gives (formed form) a.last.table bytes) (small : length bytes ≤ 67108864) where
      decided : (o : Outcome Cited) → IsRepeat a ask bytes o ⊎ IsMinting a ask now bytes o → CiteStep a ask now o
      decided o h = answered now o is_form.checked is_form.told (record {
        bytes = bytes;
        gives = asked_gives bytes gives;
        decided = subst (λ f. RefusedOr a f o (IsRepeat a ask bytes o ⊎ IsMinting a ask now bytes o)) (sym (fine_size bytes small)) h;
      })

      -- the first citation that has the form and gave the bytes is the answer
      pub repeated : (number : ℕ) → TellsFirst form bytes a.minted (Some number) → CiteStep a ask now (repeats a (record { number = number; new = false }))
      repeated number (place, is, first) = decided (repeats a (record { number = number; new = false })) (inl (record {
        place = place;
        first = first_turned (Resolves a.last a.older) (Lacks form bytes) (Has form bytes) (Misses a ask bytes) (Fits a ask bytes) (lacks_misses bytes) (has_fits bytes) a.minted place (citations_resolve history a leads).citations first;
        outcome = ap (λ n. repeats {R = Cited} a (record { number = n; new = false })) is;
      }))

      -- where there is none, a citation is minted or refused
      pub minted_anew : TellsFirst form bytes a.minted None → (r : Result Archive Refused) → new_citation a ask now bytes form ≡ r → CiteStep a ask now (makes a (cite_entry a ask now bytes) (record { number = length a.minted + 1; new = true }) r)
      minted_anew none r is = decided (makes a (cite_entry a ask now bytes) (record { number = length a.minted + 1; new = true }) r) (inr (record {
        none = all_turned_by (Resolves a.last a.older) (Lacks form bytes) (Misses a ask bytes) (lacks_misses bytes) a.minted (citations_resolve history a leads).citations none;
        form = form;
        settled = is_form.settled;
        alike = is_form.alike;
        outcome = ap (makes {R = Cited} a (cite_entry a ask now bytes) (record { number = length a.minted + 1; new = true })) (sym is);
      }))

-- ---- the entry of a citation is what the archive makes at the entry's own stamp

-- the stamp of an entry is the stamp of an entry that is made at it
stamped_again : (a : Archive) (now : ℕ) → stamped a (stamped a now) ≡ stamped a now
stamped_again a now = same now a.stamp
  where
    same : (n s : ℕ) → max (max n s) s ≡ max n s
    same n s = omega arith

-- the later of two moments before an end is before it
later : (now stamp most : ℕ) → nat_lt now most ≡ true → stamp < most → nat_lt (max now stamp) most ≡ true
later now stamp most h k = grind (arith, nat_tests)

-- what comes after tests comes at another moment that passes the last one too
retimed : {A : Type 0} (b : Bool) (f : Refused) (o : Option Refused) (t u : Bool) (g h : Refused) (x next : A) → demand b f (unless o (demand t g (Ok x))) ≡ Ok next → (t ≡ true → u ≡ true) → demand b f (unless o (demand u h (Ok x))) ≡ Ok next
retimed true f None true true g h x next e k = e
retimed true f None true false g h x next e k = let clash : false ≡ true = k refl in absurd (cc)
retimed true f None false u g h x next e k = absurd (cc)
retimed true f (Some r) t u g h x next e k = absurd (cc)
retimed false f o t u g h x next e k = absurd (cc)

module _ (a : Archive) (ask : CiteAsk) (bytes : List ℕ) (form : Normal) where
  -- the entry, the archive with it, and what comes of the tests, all at a stamp
  entry_at : ℕ → Entry
  entry_at s = entries.Cite (record { stamp = s; number = length a.minted + 1; version = version_count a; result_sha = sha256 bytes; query = ask.query; meta = ask.meta })

  with_at : ℕ → Archive
  with_at s = record a {
    minted = a.minted ++ record { issue = record { number = length a.minted + 1; version = version_count a; cited = s; updated = a.last.stamp; meta = ask.meta }; asked = ask.query; form = form; bytes = bytes } ∷ [];
    stamp = s;
    journal = a.journal + record_length (entry_at s);
  }

  new_at : (s now : ℕ) → Result Archive Refused
  new_at s now =
      demand (not (nat_lt 16777216 (length (payload (entry_at s))))) (refusals.EntryTooLarge (length (payload (entry_at s)))) (
      unless (over (with_at s) (Citations ∷ JournalBytes ∷ [])) (
      demand (nat_lt now clock_end) (refusals.ClockRange now) (Ok (with_at s))))

  -- so the citation is made again at its own stamp, with the same entry
  pub made_again : (now : ℕ) (next : Archive) → a.stamp < clock_end → new_citation a ask now bytes form ≡ Ok next → new_citation a ask (stamped a now) bytes form ≡ Ok next
  unfolding new_at with_at entry_at
  made_again now next in_time e =
      subst (λ s. new_at s (stamped a now) ≡ Ok next) (sym (stamped_again a now))
      (retimed (not (nat_lt 16777216 (length (payload (entry_at (stamped a now)))))) (refusals.EntryTooLarge (length (payload (entry_at (stamped a now))))) (over (with_at (stamped a now)) (Citations ∷ JournalBytes ∷ []))
      (nat_lt now clock_end) (nat_lt (stamped a now) clock_end) (refusals.ClockRange now) (refusals.ClockRange (stamped a now)) (with_at (stamped a now)) next e (λ h. later now a.stamp clock_end h in_time))

  pub entry_again : (now : ℕ) → cite_entry a ask (stamped a now) bytes ≡ cite_entry a ask now bytes
  unfolding entry_at
  entry_again now = ap entry_at (stamped_again a now)
