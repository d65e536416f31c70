-- What is kept after a citation stands for the archive after it.
use Rattle.std.proofs.Common.{◌≡◌, ◌<◌, ◌≤◌, ◌+◌, ◌-◌, ◌^◌, ℕ, max, min, Bool, true, false, cond, not, IsTrue, List, [], ◌∷◌, ◌++◌, Option, Some, None, length, refl, sym, ap, ◌∙◌, subst, arith, length-append}
use Rattle.std.specs.Prelude.{Ok, Err, nat_lt, option_map}
use Rattle.std.specs.Arc.{arc_value}
use Rattle.std.proofs.lemmas.Bool.Decides.{nat_tests}
use Rattle.std.proofs.lemmas.List.{length-map, map-append}
use Rattle.sha2.specs.Sha256.{sha256}
use Rattle.cite_schema.specs.Headings.{Heading, is_heading}
use Rattle.cite_schema.specs.Tests.{demand, unless}
use Rattle.cite_schema.specs.declared.query.CiteAsk.{CiteAsk}
use Rattle.entry_codec.specs.declared.entry.Entry.{Entry}
use Rattle.entry_codec.specs.declared.entry.Entry.TheVariants as entries
use Rattle.entry_codec.specs.Payloads.{payload, record_length}
use Rattle.entry_codec.specs.Spellable.{IsPrintable, FitsEntry}
use Rattle.query_store.specs.declared.citation.Citation.{Citation}
use Rattle.subset_query.specs.Printed.{printed_form}
use Rattle.subset_query.specs.declared.form.Normal.{Normal}
use Rattle.archive_model.specs.declared.answers.Cited.{Cited}
use Rattle.archive_model.specs.declared.answers.Refused.{Refused}
use Rattle.archive_model.specs.declared.answers.Refused.TheVariants as refusals
use Rattle.archive_model.specs.Archives.{Archive, version_count}
use Rattle.archive_model.specs.Citing.{cite_entry, new_minted, with_citation, new_citation}
use Rattle.archive_model.specs.Limits.{Versions, Citations, JournalBytes, limit, limit_number, quantity, clock_end}
use Rattle.archive_model.specs.Outcomes.{stamped, over}
use Rattle.archive_model.proofs.Counted.{counts_keep_their_limits}
use Rattle.archive_model.proofs.Growing.{entries_counted}
use Rattle.archive_model.proofs.Sound.{citations_resolve}
use Rattle.archive_state.specs.declared.plan.Made.{Made}
use Rattle.archive_state.specs.declared.present.Present.{Present}
use Rattle.archive_state.specs.declared.snapshot.Snapshot.{Snapshot}
use Rattle.archive_state.specs.Citations.{IsFormOf, rule_broken, citation_for, PlansMinted}
use Rattle.archive_state.specs.Limiting.{amount, passed}
use Rattle.archive_state.specs.Used.{use_of}
use Rattle.archive_state.specs.Standing.{kept_of, Shows, StandsFor, Stands}
use Rattle.archive_state.proofs.Printable.{checked_fits, told_fits}

-- ---- what is kept is few

-- as many citations are kept as were minted
same_count : (s : Snapshot) (a : Archive) → Shows s a → length s.store ≡ length a.minted
same_count s a shows = ap length shows.parts.same ∙ length-map a.minted kept_of

-- a state that stands for a history keeps few citations
pub few_citations : (p : Present) → Stands p → length (arc_value p.snapshot).store ≤ 100000
few_citations p s =
    let most : length s.archive.minted ≤ 100000 = (counts_keep_their_limits s.history s.archive s.stands.leads).limits Citations in
    subst (λ n. n ≤ 100000) (sym (same_count (arc_value p.snapshot) s.archive s.stands.agrees.shows)) most

-- and has few entries
pub few_entries : (p : Present) → Stands p → p.entries ≤ 300000
few_entries p s =
    let counts = counts_keep_their_limits s.history s.archive s.stands.leads in
    let citations : length s.archive.minted ≤ 100000 = counts.limits Citations in
    let versions : version_count s.archive ≤ 200000 = counts.limits Versions in
    let all : length s.history ≡ version_count s.archive + length s.archive.minted = entries_counted s.history s.archive s.stands.leads in
    subst (λ n. n ≤ 300000) (sym s.stands.agrees.entries_are) (subst (λ n. n ≤ 300000) (sym all) (sum (version_count s.archive) (length s.archive.minted) versions citations))
  where
    sum : (n m : ℕ) → n ≤ 200000 → m ≤ 100000 → n + m ≤ 300000
    sum n m h k = omega arith

-- the entry of a checked request can be printed
pub cite_printable : (p : Present) (ask : CiteAsk) (form : Normal) (stamp number version : ℕ) (digest : List ℕ) → Stands p → IsFormOf (arc_value p.snapshot).schema.columns ask form
    → IsPrintable (entries.Cite (record { stamp = stamp; number = number; version = version; result_sha = digest; query = ask.query; meta = ask.meta }))
cite_printable p ask form stamp number version digest s is =
    let heading = subst (λ (h : Heading). IsTrue (is_heading h.columns)) (sym s.stands.agrees.shows.schema_is) (citations_resolve s.history s.archive s.stands.leads).heading in
    (tt, tt, tt, tt, checked_fits (arc_value p.snapshot).schema.columns ask.query heading is.checked, told_fits ask.meta is.told)

-- ---- the tests of the entry

-- whether two counts are over their limits decides whether some count is
two_over : (x y : Bool) → option_map (λ c. refusals.Full (limit_number c)) (cond x (Some Citations) (cond y (Some JournalBytes) None)) ≡ option_map (λ l. refusals.Full l) (option_map limit_number (cond x (Some Citations) (cond y (Some JournalBytes) None)))
two_over true y = refl
two_over false true = refl
two_over false false = refl

-- so the refusal of an archive is that of its counts, where these are over their limits exactly where its own are
same_over : (b : Archive) (n j : ℕ) → nat_lt (limit Citations) (quantity b Citations) ≡ nat_lt (limit Citations) n → nat_lt (limit JournalBytes) (quantity b JournalBytes) ≡ nat_lt (limit JournalBytes) j
    → over b (Citations ∷ JournalBytes ∷ []) ≡ option_map (λ l. refusals.Full l) (passed (amount 0 0 0 n j) (Citations ∷ JournalBytes ∷ []))
same_over b n j few short =
    ap (λ x. option_map (λ c. refusals.Full (limit_number c)) (cond x (Some Citations) (cond (nat_lt (limit JournalBytes) (quantity b JournalBytes)) (Some JournalBytes) None))) few
    ∙ ap (λ y. option_map (λ c. refusals.Full (limit_number c)) (cond (nat_lt (limit Citations) n) (Some Citations) (cond y (Some JournalBytes) None))) short
    ∙ two_over (nat_lt (limit Citations) n) (nat_lt (limit JournalBytes) j)

-- a count that was cut off far above a limit is over it exactly where it was
cut_over : (most top n : ℕ) → most < top → nat_lt most n ≡ nat_lt most (min n top)
cut_over most top n h = grind (arith, nat_tests)

-- within a limit far below it was not cut off
cut_within : (most top n : ℕ) → most < top → nat_lt most (min n top) ≡ false → min n top ≡ n
cut_within most top n h k = grind (arith, nat_tests)

-- where no count is over its limit, the second is not
second_within : (x y : Bool) → option_map (λ l. refusals.Full l) (option_map limit_number (cond x (Some Citations) (cond y (Some JournalBytes) None))) ≡ None → y ≡ false
second_within true y e = absurd (cc)
second_within false true e = absurd (cc)
second_within false false e = refl

-- what follows tests is refused as nothing is that follows the same tests
same_refusal : {A B : Type 0} (b : Bool) (f : Refused) (o : Option Refused) (t : Bool) (g : Refused) (x : A) (y : B) (r : Refused) → Err r ≡ demand b f (unless o (demand t g (Ok x))) → demand b f (unless o (demand t g (Ok y))) ≡ Err r
same_refusal true f None true g x y r e = absurd (cc)
same_refusal true f None false g x y r e = cc
same_refusal true f (Some s) t g x y r e = cc
same_refusal false f o t g x y r e = cc

-- and comes where that comes
same_pass : {A B : Type 0} (b : Bool) (f : Refused) (o : Option Refused) (t : Bool) (g : Refused) (x : A) (y : B) (z : A) → Ok z ≡ demand b f (unless o (demand t g (Ok x))) → (demand b f (unless o (demand t g (Ok y))) ≡ Ok y) × (o ≡ None)
same_pass true f None true g x y z e = (refl, refl)
same_pass true f None false g x y z e = absurd (cc)
same_pass true f (Some s) t g x y z e = absurd (cc)
same_pass false f o t g x y z e = absurd (cc)

-- what is kept of a citation of a request
abbrev kept_with : CiteAsk → Normal → List ℕ → (n v s u : ℕ) → Citation
kept_with ask form bytes n v s u = record {
  issue = record { number = n + 1; version = v; cited = s; updated = u; meta = ask.meta };
  asked = ask.query;
  normal = form;
  query_sha = sha256 (printed_form form);
  result_sha = sha256 bytes;
}

-- the reply of a citation behind so many
abbrev pub reply_behind : ℕ → Cited
reply_behind n = record { number = n + 1; new = true }

-- the entry as it is planned
abbrev pub planned : Present → CiteAsk → ℕ → List ℕ → Entry
planned p ask now bytes =
    entries.Cite (record { stamp = max now p.stamp; number = length (arc_value p.snapshot).store + 1; version = (arc_value p.snapshot).rows.last; result_sha = sha256 bytes; query = ask.query; meta = ask.meta })

-- the bytes of the journal with it, as far as they are counted
abbrev pub counted : Present → CiteAsk → ℕ → List ℕ → ℕ
counted p ask now bytes = min (p.journal + record_length (planned p ask now bytes)) (2 ^ 64 - 1)

-- ---- the present state and the archive

module _ (p : Present) (history : List Entry) (a : Archive) (stands : StandsFor p history a) (ask : CiteAsk) (now : ℕ) (bytes : List ℕ) (form : Normal) where
  abbrev seen : Snapshot
  seen = arc_value p.snapshot

  abbrev entry : Entry
  entry = planned p ask now bytes

  abbrev count : ℕ
  count = counted p ask now bytes

  -- what the state has at hand is what the archive says
  count_is : length seen.store ≡ length a.minted
  count_is = same_count seen a stands.agrees.shows

  pub planned_is : entry ≡ cite_entry a ask now bytes
  planned_is =
      ap (λ s. entries.Cite (record { stamp = max now s; number = length seen.store + 1; version = seen.rows.last; result_sha = sha256 bytes; query = ask.query; meta = ask.meta })) stands.agrees.stamp_is
      ∙ ap (λ n. entries.Cite (record { stamp = stamped a now; number = n + 1; version = seen.rows.last; result_sha = sha256 bytes; query = ask.query; meta = ask.meta })) count_is
      ∙ ap (λ v. entries.Cite (record { stamp = stamped a now; number = length a.minted + 1; version = v; result_sha = sha256 bytes; query = ask.query; meta = ask.meta })) stands.agrees.shows.parts.tables.last

  abbrev next : Archive
  next = with_citation a ask now bytes form

  journal_is : p.journal + record_length entry ≡ next.journal
  journal_is = ap (λ n. n + record_length entry) stands.agrees.journal_is ∙ ap (λ e. a.journal + record_length e) planned_is

  citations_are : quantity next Citations ≡ length seen.store + 1
  citations_are = length-append a.minted (new_minted a ask now bytes form ∷ []) ∙ ap (λ n. n + 1) (sym count_is)

  -- the limits that are passed
  over_is : over next (Citations ∷ JournalBytes ∷ []) ≡ option_map (λ l. refusals.Full l) (passed (amount 0 0 0 (length seen.store + 1) count) (Citations ∷ JournalBytes ∷ []))
  over_is = same_over next (length seen.store + 1) count
      (ap (λ n. nat_lt (limit Citations) n) citations_are)
      (ap (λ n. nat_lt (limit JournalBytes) n) (sym journal_is) ∙ cut_over (limit JournalBytes) (2 ^ 64 - 1) (p.journal + record_length entry) (omega arith))

  -- the tests of the planned entry are those of the archive
  tests_are : demand (not (nat_lt 16777216 (length (payload entry)))) (refusals.EntryTooLarge (length (payload entry))) (
      unless (option_map (λ l. refusals.Full l) (passed (amount 0 0 0 (length seen.store + 1) count) (Citations ∷ JournalBytes ∷ []))) (
      demand (nat_lt now clock_end) (refusals.ClockRange now) (Ok next))) ≡ new_citation a ask now bytes form
  tests_are =
      ap (λ e. demand (not (nat_lt 16777216 (length (payload e)))) (refusals.EntryTooLarge (length (payload e))) (
      unless (option_map (λ l. refusals.Full l) (passed (amount 0 0 0 (length seen.store + 1) count) (Citations ∷ JournalBytes ∷ []))) (
      demand (nat_lt now clock_end) (refusals.ClockRange now) (Ok next)))) planned_is
      ∙ ap (λ o. demand (not (nat_lt 16777216 (length (payload (cite_entry a ask now bytes))))) (refusals.EntryTooLarge (length (payload (cite_entry a ask now bytes)))) (
      unless o (demand (nat_lt now clock_end) (refusals.ClockRange now) (Ok next)))) (sym over_is)

  -- whether the planned entry is small enough, and the refusal for the limit that it would pass
  abbrev small : Bool
  small = not (nat_lt 16777216 (length (payload entry)))

  abbrev full : Option Refused
  full = option_map (λ l. refusals.Full l) (passed (amount 0 0 0 (length seen.store + 1) count) (Citations ∷ JournalBytes ∷ []))

  -- so what refuses the planned entry refuses the citation
  pub refused_too : (r : Refused) → Err r ≡ rule_broken entry (length seen.store + 1) count now → new_citation a ask now bytes form ≡ Err r
  refused_too r e = sym tests_are ∙ same_refusal small (refusals.EntryTooLarge (length (payload entry))) full (nat_lt now clock_end) (refusals.ClockRange now) tt next r e

  -- and where nothing does, the citation is minted
  pub passed_too : Ok tt ≡ rule_broken entry (length seen.store + 1) count now → new_citation a ask now bytes form ≡ Ok next
  passed_too e = sym tests_are ∙ (same_pass small (refusals.EntryTooLarge (length (payload entry))) full (nat_lt now clock_end) (refusals.ClockRange now) tt next tt e).0

  -- then the journal's bytes were counted whole
  counted_whole : Ok tt ≡ rule_broken entry (length seen.store + 1) count now → count ≡ next.journal
  counted_whole e =
      let room = (same_pass small (refusals.EntryTooLarge (length (payload entry))) full (nat_lt now clock_end) (refusals.ClockRange now) tt next tt e).1 in
      let short = second_within (nat_lt (limit Citations) (length seen.store + 1)) (nat_lt (limit JournalBytes) count) room in
      cut_within (limit JournalBytes) (2 ^ 64 - 1) (p.journal + record_length entry) (omega arith) short ∙ journal_is

  -- what is kept of the citation is what is kept of the one that is minted
  kept_is : citation_for seen ask form (max now p.stamp) (sha256 bytes) ≡ kept_of (new_minted a ask now bytes form)
  kept_is =
      ap (λ n. kept_with ask form bytes n seen.rows.last (max now p.stamp) seen.updated) count_is
      ∙ ap (λ v. kept_with ask form bytes (length a.minted) v (max now p.stamp) seen.updated) stands.agrees.shows.parts.tables.last
      ∙ ap (λ s. kept_with ask form bytes (length a.minted) (version_count a) (max now s) seen.updated) stands.agrees.stamp_is
      ∙ ap (λ u. kept_with ask form bytes (length a.minted) (version_count a) (stamped a now) u) stands.agrees.shows.updated_is

  -- what is kept with the citation shows the archive with it
  shows_next : (t : Snapshot) → t ≡ record seen { store = seen.store ++ citation_for seen ask form (max now p.stamp) (sha256 bytes) ∷ [] } → Shows t next
  shows_next t is = subst (λ (w : Snapshot). Shows w next) (sym is) (record {
    dataset_is = stands.agrees.shows.dataset_is;
    schema_is = stands.agrees.shows.schema_is;
    parts = record {
      tables = record { last = stands.agrees.shows.parts.tables.last; tables = stands.agrees.shows.parts.tables.tables; kept = stands.agrees.shows.parts.tables.kept };
      same = ap (λ c. seen.store ++ c ∷ []) kept_is ∙ ap (λ (l : List Citation). l ++ kept_of (new_minted a ask now bytes form) ∷ []) stands.agrees.shows.parts.same
          ∙ sym (map-append kept_of a.minted (new_minted a ask now bytes form ∷ []));
    };
    founded_is = stands.agrees.shows.founded_is;
    updated_is = stands.agrees.shows.updated_is;
  })

  -- so the plan of the citation is whole
  pub plan_whole : (made : Made Cited) → Ok tt ≡ rule_broken entry (length seen.store + 1) count now
      → arc_value made.next.snapshot ≡ record seen { store = seen.store ++ citation_for seen ask form (max now p.stamp) (sha256 bytes) ∷ [] }
      → made.next.used ≡ p.used → made.next.stamp ≡ max now p.stamp → made.next.entries ≡ p.entries + 1 → made.next.journal ≡ count
      → made.reply ≡ record { number = length seen.store + 1; new = true } → made.payload ≡ payload entry → FitsEntry entry → PlansMinted a ask now bytes form history made
  plan_whole made passes seen_is used_is stamp_is entries_are journal_is' reply_is payload_is fits = record {
    next = next;
    makes = passed_too passes;
    reply_is = reply_is ∙ ap reply_behind count_is;
    payload_is = payload_is ∙ ap payload planned_is;
    fits = subst FitsEntry planned_is fits;
    stands = record {
      shows = shows_next (arc_value made.next.snapshot) seen_is;
      numbers = λ curator number. ap (λ u. use_of curator number u) used_is ∙ stands.agrees.numbers curator number;
      stamp_is = stamp_is ∙ ap (max now) stands.agrees.stamp_is;
      entries_are = entries_are ∙ ap (λ n. n + 1) stands.agrees.entries_are ∙ sym (length-append history (cite_entry a ask now bytes ∷ []));
      journal_is = journal_is' ∙ counted_whole passes;
    };
  }
