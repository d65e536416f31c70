-- Worlds one behind another.
use Rattle.std.proofs.Common.{◌≡◌, ℕ, ◌+◌, Bool, inl, inr, List, [], ◌∷◌, ◌++◌, Option, Some, None, length, length-append, append_assoc, append-nil, refl, sym, ap, ◌∙◌, subst, arith}
use Rattle.std.specs.Io.KnownBytes.{Appends}
use Rattle.std.proofs.lemmas.Grind.{flat_map-append}
use Rattle.cite_disk.specs.Device.{RoseBy}
use Rattle.entry_codec.specs.declared.entry.Entry.{Entry}
use Rattle.archive_model.specs.Archives.{Archive}
use Rattle.archive_model.specs.Outcomes.{entries_of}
use Rattle.archive_state.specs.Standing.{StandsFor}
use Rattle.cite_http.specs.declared.message.Message.{Message}
use Rattle.cite_http.specs.Responses.{response_of}
use Rattle.cite_conversation.specs.Turns.{Turn, Talks, moments_in, responses_in, entries_in, failed_in, fails_by, fails_after}
use Rattle.cite_conversation.specs.Steps.{World, IsCarried, Moves}

pub appends_more : (a b c : Option (List ℕ)) (xs ys : List ℕ) → Appends a b xs → Appends b c ys → Appends a c (xs ++ ys)
appends_more None b c xs ys p q = tt
appends_more (Some x) None c xs ys p q = absurd p
appends_more (Some x) (Some y) None xs ys p q = absurd q
appends_more (Some x) (Some y) (Some z) xs ys p q = q ∙ ap (λ had. had ++ ys) p ∙ append_assoc x xs ys

pub appends_nothing : (a : Option (List ℕ)) → Appends a a []
appends_nothing None = tt
appends_nothing (Some x) = sym (append-nil x)

rose_more : (a j b k c : ℕ) → RoseBy a j b → RoseBy b k c → RoseBy a (j + k) c
rose_more a j b k c (inl p) (inl q) = inl (omega arith)
rose_more a j b k c (inr p) (inl q) = inr (omega arith)
rose_more a j b k c (inl p) (inr q) = inr q
rose_more a j b k c (inr p) (inr q) = inr q

talks_more : (a b c : Archive) (ms ns : List Message) (ts us : List Turn) → Talks a ms ts b → Talks b ns us c → Talks a (ms ++ ns) (ts ++ us) c
talks_more a b c [] ns [] us p q = subst (λ (x : Archive). Talks x ns us c) (sym p) q
talks_more a b c (m ∷ ms) ns (t ∷ ts) us p q = (p.0, talks_more t.after b c ms ns ts us p.1 q)
talks_more a b c [] ns (t ∷ ts) us p q = absurd p
talks_more a b c (m ∷ ms) ns [] us p q = absurd p

fails_more : (last : Bool) (ts us : List Turn) → fails_after last (ts ++ us) ≡ fails_after (fails_after last ts) us
fails_more last [] us = refl
fails_more last (t ∷ ts) us = fails_more (fails_by last t.entry t.failed) ts us

entries_more : (history : List Entry) (ts us : List Turn) → (history ++ entries_in ts) ++ entries_in us ≡ history ++ entries_in (ts ++ us)
entries_more history ts us =
    append_assoc history (entries_in ts) (entries_in us) ∙ ap (λ es. history ++ es) (sym (flat_map-append (λ (t : Turn). entries_of t.entry) ts us))

failed_more : (failed : List Entry) (ts us : List Turn) → (failed ++ failed_in ts) ++ failed_in us ≡ failed ++ failed_in (ts ++ us)
failed_more failed ts us =
    append_assoc failed (failed_in ts) (failed_in us) ∙ ap (λ es. failed ++ es) (sym (flat_map-append (λ (t : Turn). entries_of t.failed) ts us))

pub responses_more : (ts us : List Turn) → responses_in ts ++ responses_in us ≡ responses_in (ts ++ us)
responses_more ts us = sym (flat_map-append (λ (t : Turn). response_of t.reply) ts us)

pub carried_along : (w : World) (h i f g : List Entry) (l k : Bool) → h ≡ i → f ≡ g → l ≡ k → IsCarried w h f l → IsCarried w i g k
carried_along w h i f g l k p q r c =
    subst (λ (x : Bool). IsCarried w i g x) r (subst (λ (x : List Entry). IsCarried w i x l) q (subst (λ (x : List Entry). IsCarried w x f l) p c))

-- no message
pub moves_nothing : (honest : Type 0) (w : World) (a : Archive) (history : List Entry) → StandsFor w.held.present history a → Moves honest w w a history [] []
moves_nothing honest w a history s = record {
  after = a;
  talks = refl;
  stands = subst (λ (h : List Entry). StandsFor w.held.present h a) (sym (append-nil history)) s;
  moments = appends_nothing w.given;
  faults = inl (omega arith);
  disk = λ h failed last c. carried_along w history (history ++ []) failed (failed ++ []) last last (sym (append-nil history)) (sym (append-nil failed)) refl c;
}

-- messages, and then more messages
pub moves_more : (honest : Type 0) (v w x : World) (a : Archive) (history : List Entry) (ms ns : List Message) (ts us : List Turn)
    → (p : Moves honest v w a history ms ts) → Moves honest w x p.after (history ++ entries_in ts) ns us → Moves honest v x a history (ms ++ ns) (ts ++ us)
moves_more honest v w x a history ms ns ts us p q = record {
  after = q.after;
  talks = talks_more a p.after q.after ms ns ts us p.talks q.talks;
  stands = subst (λ (h : List Entry). StandsFor x.held.present h q.after) (entries_more history ts us) q.stands;
  moments = subst (λ (l : List ℕ). Appends v.given x.given l) (sym (flat_map-append (λ (t : Turn). t.moments) ts us)) (appends_more v.given w.given x.given (moments_in ts) (moments_in us) p.moments q.moments);
  faults = subst (λ (n : ℕ). RoseBy v.faults n x.faults)
      (sym (ap length (flat_map-append (λ (t : Turn). entries_of t.failed) ts us) ∙ length-append (failed_in ts) (failed_in us)))
      (rose_more v.faults (length (failed_in ts)) w.faults (length (failed_in us)) x.faults p.faults q.faults);
  disk = λ h failed last c. carried_along x ((history ++ entries_in ts) ++ entries_in us) (history ++ entries_in (ts ++ us)) ((failed ++ failed_in ts) ++ failed_in us) (failed ++ failed_in (ts ++ us))
      (fails_after (fails_after last ts) us) (fails_after last (ts ++ us)) (entries_more history ts us) (failed_more failed ts us) (sym (fails_more last ts us))
      (q.disk h (failed ++ failed_in ts) (fails_after last ts) (p.disk h failed last c));
}
