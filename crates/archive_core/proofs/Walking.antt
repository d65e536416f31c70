-- How the records of a journal are followed, one after the other.
use Rattle.std.proofs.Common.{◌≡◌, ◌≢◌, ◌≤◌, ℕ, ◌+◌, List, [], ◌∷◌, ◌++◌, Option, Some, None, length, drop, refl, sym, ap, ◌∙◌, subst, arith, append_assoc, length-append}
use Rattle.std.specs.Prelude.{Bool, true, false, Result, Ok, IfSome}
use Rattle.std.proofs.lemmas.List.{drop_at}
use Rattle.archive_journal.specs.declared.walk.Walk.{Walk}
use Rattle.archive_journal.specs.Records.{body, front}
use Rattle.archive_journal.specs.Walks.{IsAt, IsWhole}
use Rattle.archive_journal.proofs.Images.{front-push}
use Rattle.archive_journal.proofs.Unique.{one_payload}
use Rattle.entry_codec.specs.declared.entry.Entry.{Entry}
use Rattle.entry_codec.specs.Payloads.{payload}
use Rattle.entry_codec.specs.Spellable.{FitsEntry}
use Rattle.archive_model.specs.Archives.{Archive}
use Rattle.archive_model.specs.Histories.{LeadsTo}
use Rattle.archive_state.specs.declared.present.Present.{Present}
use Rattle.archive_state.specs.Following.{Follows, Grows, Hears, NeverBehind}
use Rattle.archive_core.specs.Keeping.{AreSpelled, payloads_of}
use Rattle.archive_core.specs.Opening.{IsBegun, IsSpoilt, Walked}
use Rattle.archive_core.proofs.Lengths.{payloads_grow, journal_length_grows}

-- one spelled entry more
spelled_push : (history : List Entry) (e : Entry) → AreSpelled history → FitsEntry e → AreSpelled (history ++ e ∷ [])
spelled_push [] e spelled fits = (fits, tt)
spelled_push (d ∷ ds) e spelled fits = (spelled.0, spelled_push ds e spelled.1 fits)

begun_by : (history : List Entry) (a : Archive) → LeadsTo history a → IsBegun history
begun_by [] a leads = absurd leads
begun_by (e ∷ es) a leads = (a, leads)

-- what is followed is none, or a legal history
begun : (kept : Option Present) (history : List Entry) → Follows kept history → IsBegun history
begun None history none = subst IsBegun (sym none) refl
begun (Some p) history (a, stands) = begun_by history a stands.leads

nothing_pushed : (history : List Entry) (e : Entry) → history ++ e ∷ [] ≢ []
nothing_pushed [] e same = cc
nothing_pushed (d ∷ ds) e same = cc

-- what is said of an option's value, where there is one
pub if_some : {T : Type 0} (P : T → Type 0) (o : Option T) (x : T) → o ≡ Some x → IfSome o P → P x
if_some {T} P o x is says = subst (λ (p : Option T). IfSome p P) is says

-- the answer of a follower that heard an entry
pub heard_true : (E : Type 0) (history : List Entry) (bytes : List ℕ) (old new : Option Present) (answer : Result Bool E) → Hears history bytes old new answer → answer ≡ Ok true → Grows history bytes new
heard_true E history bytes old new answer hears is = subst (λ (r : Result Bool E). Hears history bytes old new r) is hears

-- and of one that heard none
pub heard_false : (E : Type 0) (history : List Entry) (bytes : List ℕ) (old new : Option Present) (answer : Result Bool E) → Hears history bytes old new answer → answer ≡ Ok false
    → (e : Entry) → FitsEntry e → bytes ≡ payload e → NeverBehind history e
heard_false E history bytes old new answer hears is = (subst (λ (r : Result Bool E). Hears history bytes old new r) is hears).1

-- a record that was walked over
whole_read : (b : List ℕ) (ps : List (List ℕ)) (p : List ℕ) (at to gate : ℕ) → at ≡ length (front ps) → (is : IsAt b (ps ++ p ∷ []) to gate) → drop (at + 1) b ≡ body p ++ (gate ∷ is.rest)
whole_read b ps p at to gate place is =
    let split : b ≡ (front ps ++ 1 ∷ []) ++ (body p ++ (gate ∷ is.rest)) =
    is.is ∙ ap (λ (l : List ℕ). l ++ (gate ∷ is.rest)) (front-push ps p) ∙ append_assoc (front ps) (1 ∷ body p) (gate ∷ is.rest)
    ∙ sym (append_assoc (front ps) (1 ∷ []) (body p ++ (gate ∷ is.rest))) in
    let long : length (front ps ++ 1 ∷ []) ≡ at + 1 = omega (arith, length-append (front ps) (1 ∷ []), place) in
    ap (λ (l : List ℕ). drop (at + 1) l) split ∙ drop_at (front ps ++ 1 ∷ []) (body p ++ (gate ∷ is.rest)) (at + 1) long

module _ (honest : Type 0) where
  -- before the first record
  pub walk_begun : (b : List ℕ) (walk : Walk) → walk.at ≡ 16 → walk.gate ≡ 1 → (honest → IsAt b [] walk.at walk.gate) → Walked honest b walk None
  walk_begun b walk place one here = record { history = []; follows = refl; spelled = tt; place = ap (λ n. n + 1) place; first = λ none. one; here = here }

  -- over one record more
  pub walk_on : (b next : List ℕ) (walk further : Walk) (old new : Option Present) (w : Walked honest b walk old) (p : List ℕ) → further.at ≡ walk.at + length p + 37
      → (honest → (ps : List (List ℕ)) → IsAt b ps walk.at walk.gate → IsAt next (ps ++ p ∷ []) further.at further.gate) → Grows w.history p new → Walked honest next further new
  walk_on b next walk further old new w p place steps grows =
      let e : Entry = grows.entry in
      let spelt : payloads_of w.history ++ p ∷ [] ≡ payloads_of (w.history ++ e ∷ []) = ap (λ (q : List ℕ). payloads_of w.history ++ q ∷ []) grows.payload_is ∙ sym (payloads_grow w.history e) in
      record {
        history = w.history ++ e ∷ [];
        follows = grows.follows;
        spelled = spelled_push w.history e w.spelled grows.fits;
        place = omega (arith, place, w.place, journal_length_grows w.history e, ap length grows.payload_is);
        first = λ none. absurd (nothing_pushed w.history e none);
        here = λ holds. subst (λ (ps : List (List ℕ)). IsAt next ps further.at further.gate) spelt (steps holds (payloads_of w.history) (w.here holds));
      }

  module _ (holds : honest) (b : List ℕ) (walk : Walk) (kept : Option Present) (w : Walked honest b walk kept) (one : walk.gate ≡ 1) where
    open_here : IsAt b (payloads_of w.history) walk.at 1
    open_here = subst (λ (g : ℕ). IsAt b (payloads_of w.history) walk.at g) one (w.here holds)

    -- no record stands whole behind the gate
    pub spoilt_record : ((p : List ℕ) → IsWhole b walk.at p → ⊥) → IsSpoilt b walk.at
    spoilt_record broken = record { history = w.history; begun = begun kept w.history w.follows; spelled = w.spelled; here = open_here; broken = λ e fits whole. absurd (broken (payload e) whole) }

    -- a whole one does, of no entry that can stand there
    pub spoilt_entry : (p next : List ℕ) (to gate : ℕ) → length p ≤ 16777216 → next ≡ b → IsAt next (payloads_of w.history ++ p ∷ []) to gate
        → ((e : Entry) → FitsEntry e → p ≡ payload e → NeverBehind w.history e) → IsSpoilt b walk.at
    spoilt_entry p next to gate small same is never =
        let here : IsAt b (payloads_of w.history ++ p ∷ []) to gate = subst (λ (l : List ℕ). IsAt l (payloads_of w.history ++ p ∷ []) to gate) same is in
        let read : drop (walk.at + 1) b ≡ body p ++ (gate ∷ here.rest) = whole_read b (payloads_of w.history) p walk.at to gate open_here.place here in
        record {
          history = w.history;
          begun = begun kept w.history w.follows;
          spelled = w.spelled;
          here = open_here;
          broken = λ e fits whole. never e fits (one_payload p (payload e) (gate ∷ here.rest) (whole.next ∷ whole.rest) small whole.small (sym read ∙ whole.is));
        }
