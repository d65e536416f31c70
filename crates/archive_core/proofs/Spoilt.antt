-- A file that opening refuses stands for no legal history.
use Rattle.std.proofs.Common.{◌≡◌, ◌≢◌, ◌≤◌, ℕ, ◌+◌, List, [], ◌∷◌, ◌++◌, length, drop, refl, sym, ap, ◌∙◌, subst, arith, append_assoc, length-append}
use Rattle.std.proofs.lemmas.List.{drop_at, append_cancel_left}
use Rattle.std.proofs.lemmas.List.Elements.{All-nil, All-head, All-tail}
use Rattle.archive_journal.specs.Laws.{AreSmall}
use Rattle.archive_journal.specs.Records.{header, body, open_records, front, Stands}
use Rattle.archive_journal.specs.Walks.{IsAt, IsNoArchive, IsWhole}
use Rattle.archive_journal.proofs.Unique.{one_payload, one_rest}
use Rattle.entry_codec.specs.Codecs.{one_reading}
use Rattle.entry_codec.specs.Grammar.{entry}
use Rattle.entry_codec.specs.Payloads.{payload}
use Rattle.entry_codec.specs.Spellable.{FitsEntry}
use Rattle.entry_codec.specs.declared.entry.Entry.{Entry}
use Rattle.entry_codec.specs.declared.entry.Entry.TheVariants as entries
use Rattle.archive_model.specs.Archives.{Archive}
use Rattle.archive_model.specs.Histories.{founded, LeadsTo, Runs}
use Rattle.archive_core.specs.Keeping.{AreSpelled, payloads_of}
use Rattle.archive_core.specs.Opening.{IsBegun, IsSpoilt, NoArchiveStandsForNone, SpoiltStandsForNone}
use Rattle.archive_core.proofs.EntrySizes.{follower_is_small, payloads_are_small}

-- records end at a gate that isn't open, so where one stands open behind some of them, there is a record more
record RunsOn (ps qs : List (List ℕ)) (r behind : List ℕ) : Type 0 where
  next : List ℕ
  others : List (List ℕ)
  is : qs ≡ ps ++ next ∷ others
  back : r ≡ body next ++ (open_records others ++ behind)

runs_on : (ps qs : List (List ℕ)) → AreSmall ps → AreSmall qs → (h : ℕ) (r s : List ℕ) → h ≢ 1 → open_records ps ++ (1 ∷ r) ≡ open_records qs ++ (h ∷ s) → RunsOn ps qs r (h ∷ s)
runs_on [] [] small_p small_q h r s shut e =
    let one : h ≡ 1 = cc in
    absurd (shut one)
runs_on [] (q ∷ qs) small_p small_q h r s shut e =
    record { next = q; others = qs; is = refl; back = ap (λ (l : List ℕ). drop 1 l) e ∙ append_assoc (body q) (open_records qs) (h ∷ s) }
runs_on (p ∷ ps) [] small_p small_q h r s shut e =
    let one : h ≡ 1 = cc in
    absurd (shut one)
runs_on (p ∷ ps) (q ∷ qs) small_p small_q h r s shut e =
    let tail : body p ++ (open_records ps ++ (1 ∷ r)) ≡ body q ++ (open_records qs ++ (h ∷ s)) =
    sym (append_assoc (body p) (open_records ps) (1 ∷ r)) ∙ ap (λ (l : List ℕ). drop 1 l) e ∙ append_assoc (body q) (open_records qs) (h ∷ s) in
    let here_p : length p ≤ 16777216 = All-head (λ x. length x ≤ 16777216) p ps small_p in
    let here_q : length q ≤ 16777216 = All-head (λ x. length x ≤ 16777216) q qs small_q in
    let same : p ≡ q = one_payload p q (open_records ps ++ (1 ∷ r)) (open_records qs ++ (h ∷ s)) here_p here_q tail in
    let rest : open_records ps ++ (1 ∷ r) ≡ open_records qs ++ (h ∷ s) = one_rest p q (open_records ps ++ (1 ∷ r)) (open_records qs ++ (h ∷ s)) here_p here_q tail in
    let more : RunsOn ps qs r (h ∷ s) = runs_on ps qs (All-tail (λ x. length x ≤ 16777216) p ps small_p) (All-tail (λ x. length x ≤ 16777216) q qs small_q) h r s shut rest in
    record {
      next = more.next;
      others = more.others;
      is = ap (λ (x : List ℕ). x ∷ qs) (sym same) ∙ ap (λ (l : List (List ℕ)). p ∷ l) more.is;
      back = more.back;
    }

-- behind a record stands a gate
gate_behind : (others : List (List ℕ)) (h : ℕ) (s : List ℕ) → (gate : ℕ) × (rest : List ℕ) × (open_records others ++ (h ∷ s) ≡ gate ∷ rest)
gate_behind [] h s = (h, s, refl)
gate_behind (p ∷ ps) h s = (1, (body p ++ open_records ps) ++ (h ∷ s), refl)

-- the entries run on too
record EntriesRunOn (g h : List Entry) (next : List ℕ) : Type 0 where
  told : Entry
  others : List Entry
  is : h ≡ g ++ told ∷ others
  spells : payload told ≡ next
  fits : FitsEntry told

entries_run_on : (g h : List Entry) → AreSpelled g → AreSpelled h → (next : List ℕ) (others : List (List ℕ)) → payloads_of h ≡ payloads_of g ++ next ∷ others → EntriesRunOn g h next
entries_run_on [] [] fits_g fits_h next others same = absurd (cc)
entries_run_on [] (e ∷ h) fits_g fits_h next others same =
    let here : payload e ≡ next = cc in
    record { told = e; others = h; is = refl; spells = here; fits = fits_h.0 }
entries_run_on (d ∷ g) [] fits_g fits_h next others same = absurd (cc)
entries_run_on (d ∷ g) (e ∷ h) fits_g fits_h next others same =
    let here : payload d ≡ payload e = cc in
    let rest : payloads_of h ≡ payloads_of g ++ next ∷ others = cc in
    let one : d ≡ e = (one_reading entry d e [] [] fits_g.0 fits_h.0 (ap (λ (p : List ℕ). p ++ []) here)).0 in
    let more : EntriesRunOn g h next = entries_run_on g h fits_g.1 fits_h.1 next others rest in
    record {
      told = more.told;
      others = more.others;
      is = ap (λ (x : Entry). x ∷ h) (sym one) ∙ ap (λ (l : List Entry). d ∷ l) more.is;
      spells = more.spells;
      fits = more.fits;
    }

-- the first entries of a legal history are one
runs_begin : (a : Archive) (es : List Entry) (e : Entry) (others : List Entry) (c : Archive) → Runs a (es ++ e ∷ others) c → (b : Archive) × Runs a (es ++ e ∷ []) b
runs_begin a [] e others c (next, makes, runs) = (next, (next, makes, refl))
runs_begin a (d ∷ es) e others c (next, makes, runs) =
    let more = runs_begin next es e others c runs in
    (more.0, (next, makes, more.1))

leads_first : (e : Entry) (others : List Entry) (a : Archive) → LeadsTo (e ∷ others) a → (b : Archive) × LeadsTo (e ∷ []) b
leads_first (entries.Found f) others a leads = (founded f, (leads.0, refl))
leads_first (entries.Batch e) others a leads = absurd leads
leads_first (entries.Cite e) others a leads = absurd leads
leads_first (entries.Migrate e) others a leads = absurd leads

leads_begin : (g : List Entry) (e : Entry) (others : List Entry) (a : Archive) → LeadsTo (g ++ e ∷ others) a → (b : Archive) × LeadsTo (g ++ e ∷ []) b
leads_begin [] e others a leads = leads_first e others a leads
leads_begin (entries.Found f ∷ es) e others a leads =
    let more = runs_begin (founded f) es e others a leads.1 in
    (more.0, (leads.0, more.1))
leads_begin (entries.Batch d ∷ es) e others a leads = absurd leads
leads_begin (entries.Cite d ∷ es) e others a leads = absurd leads
leads_begin (entries.Migrate d ∷ es) e others a leads = absurd leads

begun_small : (history : List Entry) → IsBegun history → AreSmall (payloads_of history)
begun_small [] begun = All-nil (λ (p : List ℕ). length p ≤ 16777216)
begun_small (e ∷ es) begun = payloads_are_small (e ∷ es) begun.0 begun.1

-- what stands behind an open gate
behind_gate : (b : List ℕ) (ps : List (List ℕ)) (at : ℕ) → (is : IsAt b ps at 1) → drop (at + 1) b ≡ is.rest
behind_gate b ps at is =
    let long : length (front ps ++ 1 ∷ []) ≡ at + 1 = omega (arith, length-append (front ps) (1 ∷ []), is.place) in
    ap (λ (l : List ℕ). drop (at + 1) l) (is.is ∙ sym (append_assoc (front ps) (1 ∷ []) is.rest)) ∙ drop_at (front ps ++ 1 ∷ []) is.rest (at + 1) long

-- the records behind the header
behind_header : (ps qs : List (List ℕ)) (b l k : List ℕ) → b ≡ front ps ++ l → b ≡ front qs ++ k → open_records ps ++ l ≡ open_records qs ++ k
behind_header ps qs b l k is_p is_q =
    append_cancel_left header (open_records ps ++ l) (open_records qs ++ k)
    (sym (append_assoc header (open_records ps) l) ∙ sym is_p ∙ is_q ∙ append_assoc header (open_records qs) k)

pub spoilt_stands_for_none : SpoiltStandsForNone
spoilt_stands_for_none b at h a spoilt leads fits stands =
    let g = spoilt.history in
    let more : RunsOn (payloads_of g) (payloads_of h) spoilt.here.rest (stands.gate ∷ stands.rest) =
    runs_on (payloads_of g) (payloads_of h) (begun_small g spoilt.begun) (payloads_are_small h a leads) stands.gate spoilt.here.rest stands.rest stands.shut
    (behind_header (payloads_of g) (payloads_of h) b (1 ∷ spoilt.here.rest) (stands.gate ∷ stands.rest) spoilt.here.is stands.is) in
    let run : EntriesRunOn g h more.next = entries_run_on g h spoilt.spelled fits more.next more.others more.is in
    let legal = leads_begin g run.told run.others a (subst (λ (l : List Entry). LeadsTo l a) run.is leads) in
    let gate = gate_behind more.others stands.gate stands.rest in
    let whole : IsWhole b at (payload run.told) = record {
      next = gate.0;
      rest = gate.1;
      is = behind_gate b (payloads_of g) at spoilt.here ∙ more.back ∙ ap (λ (l : List ℕ). body more.next ++ l) gate.2 ∙ ap (λ (p : List ℕ). body p ++ (gate.0 ∷ gate.1)) (sym run.spells);
      small = follower_is_small g run.told legal.0 legal.1;
    } in
    spoilt.broken run.told run.fits whole legal.0 legal.1

pub no_archive_stands_for_none : NoArchiveStandsForNone
no_archive_stands_for_none b [] a none leads stands = absurd leads
no_archive_stands_for_none b (e ∷ es) a none leads stands =
    none ((body (payload e) ++ open_records (payloads_of es)) ++ (stands.gate ∷ stands.rest))
    (stands.is ∙ append_assoc header (1 ∷ body (payload e) ++ open_records (payloads_of es)) (stands.gate ∷ stands.rest))
