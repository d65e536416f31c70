-- A file stands for one legal history.
use Rattle.std.proofs.Common.{◌≡◌, List, [], ◌∷◌, ◌++◌, ℕ, refl, ap, ◌∙◌}
use Rattle.archive_journal.proofs.Unique.{one_list}
use Rattle.entry_codec.specs.Grammar.{entry}
use Rattle.entry_codec.specs.Codecs.{one_reading}
use Rattle.entry_codec.specs.declared.entry.Entry.{Entry}
use Rattle.entry_codec.specs.Payloads.{payload}
use Rattle.archive_core.specs.Keeping.{payloads_of, AreSpelled}
use Rattle.archive_core.specs.Opening.{OneHistory}
use Rattle.archive_core.proofs.EntrySizes.{payloads_are_small}

-- entries with a spelling are told apart by their payloads
same_entries : (g h : List Entry) → AreSpelled g → AreSpelled h → payloads_of g ≡ payloads_of h → g ≡ h
same_entries [] [] fits_g fits_h same = refl
same_entries [] (e ∷ h) fits_g fits_h same = absurd (cc)
same_entries (d ∷ g) [] fits_g fits_h same = absurd (cc)
same_entries (d ∷ g) (e ∷ h) fits_g fits_h same =
    let here : payload d ≡ payload e = cc in
    let rest : payloads_of g ≡ payloads_of h = cc in
    let one : d ≡ e = (one_reading entry d e [] [] fits_g.0 fits_h.0 (ap (λ (p : List ℕ). p ++ []) here)).0 in
    ap (λ (x : Entry). x ∷ g) one ∙ ap (λ (l : List Entry). e ∷ l) (same_entries g h fits_g.1 fits_h.1 rest)

pub one_history : OneHistory
one_history b g h c a leads_g leads_h fits_g fits_h is_g is_h =
    same_entries g h fits_g fits_h (one_list b (payloads_of g) (payloads_of h) (payloads_are_small g c leads_g) (payloads_are_small h a leads_h) is_g is_h)
