-- From what becomes of a message to the turn that it is.
use Rattle.std.proofs.Common.{◌≡◌, ℕ, ◌≤◌, Bool, true, false, if◌then◌else◌, ◌⊎◌, inl, inr, List, [], ◌∷◌, ◌++◌, Option, Some, None, append-nil, refl, sym, ap, subst, arith}
use Rattle.std.specs.List.{Contains}
use Rattle.std.specs.Io.KnownBytes.{Appends}
use Rattle.std.proofs.lemmas.List.Elements.{Contains-append_left, Contains-append_right}
use Rattle.cite_ports.specs.Ports.{Shows}
use Rattle.archive_journal.specs.declared.journal.Journal.{Journal}
use Rattle.archive_journal.specs.declared.journal.Stage.{Stage}
use Rattle.archive_journal.specs.declared.journal.Stage.TheVariants.{Settled, Staged, Opened}
use Rattle.archive_journal.specs.Stands.{Image}
use Rattle.entry_codec.specs.declared.entry.Entry.{Entry}
use Rattle.entry_codec.specs.Payloads.{payload}
use Rattle.archive_model.specs.Archives.{Archive}
use Rattle.archive_state.specs.declared.present.Present.{Present}
use Rattle.archive_state.specs.Standing.{StandsFor}
use Rattle.archive_core.specs.Keeping.{Held, Keeps, payloads_of}
use Rattle.cite_http.specs.declared.ask.Ask.{Ask}
use Rattle.cite_http.specs.declared.message.Message.{Message}
use Rattle.cite_http.specs.declared.reply.Reply.{Reply}
use Rattle.cite_answer.specs.Messages.{asks_when}
use Rattle.cite_answer.specs.Replies.{failed_reply, wanting_reply}
use Rattle.cite_answer.specs.Fates.{Deed, deed_of, TakesIf, Fares, Stays, Grows, Fails, Wants}
use Rattle.cite_conversation.specs.Turns.{Turn, AsDefined, WithoutDisk, WithoutMemory, moments_of, MayBeTaken}
use Rattle.cite_conversation.specs.Steps.{World, IsCarried, Whole, Failing, Moves}
use Rattle.cite_conversation.proofs.Outcomes.{asked_keeps}
use Rattle.cite_conversation.proofs.Carrying.{appends_nothing}

-- a settled journal keeps a history under each entry, where it keeps it under one
pub keeps_each : (images : List ℕ → Type 0) (j : Journal) (history : List Entry) (d : Entry) → j.stage ≡ Settled → Keeps images j history d → (e : Entry) → Keeps images j history e
keeps_each images j history d settled k e = record {
  stands = record {
    end = k.stands.end;
    under_way = λ un. absurd (un settled);
    each = λ b i. image b j.stage settled (k.stands.each b i);
  };
  legal = λ un. absurd (un settled);
}
  where
    image : (b : List ℕ) (s : Stage) → s ≡ Settled → Image s (payloads_of history) (payload d) b → Image s (payloads_of history) (payload e) b
    image b Settled is x = x
    image b Staged is x = x
    image b Opened is x = absurd (cc)

-- what was taken of the clock
same_appends : (o p : Option (List ℕ)) → p ≡ o → Appends o p []
same_appends o p e = subst (λ (q : Option (List ℕ)). Appends o q []) (sym e) (appends_nothing o)

takes_moments : (b : Bool) (now : ℕ) (deed : Deed) → TakesIf b now deed → Appends deed.given_before deed.given_after ((if b then now ∷ [] else []) ++ [])
takes_moments true now deed h = h
takes_moments false now deed h = same_appends deed.given_before deed.given_after h

-- a desk, a disk and the moments of a clock
abbrev pub world_of : {X : Type 0} (images : X → List ℕ → Type 0) (count : X → ℕ) (disk : X) (held : Held) (given : Option (List ℕ)) → World
world_of images count disk held given = record { held = held; images = images disk; faults = count disk; given = given }

-- a turn with this reply
pub record Turned (honest : Type 0) (old new : World) (a : Archive) (history : List Entry) (m : Message) (reply : Reply) : Type 0 where
  pub turn : Turn
  pub reply_is : turn.reply ≡ reply
  pub moves : Moves honest old new a history (m ∷ []) (turn ∷ [])

stays_for : (p q : Present) (history : List Entry) (a b : Archive) → q ≡ p → b ≡ a → StandsFor p history a → StandsFor q (history ++ []) b
stays_for p q history a b e f s =
    subst (λ (x : Present). StandsFor x (history ++ []) b) (sym e) (subst (λ (x : Archive). StandsFor p (history ++ []) x) (sym f) (subst (λ (h : List Entry). StandsFor p h a) (sym (append-nil history)) s))

-- nothing was touched
carried_same : {X : Type 0} (images : X → List ℕ → Type 0) (count : X → ℕ) (old new : X) (before after : Held) (g h : Option (List ℕ)) (history failed : List Entry) (last : Bool)
    → new ≡ old → after ≡ before → IsCarried (world_of images count old before g) history failed last → IsCarried (world_of images count new after h) (history ++ []) (failed ++ []) last
carried_same {X} images count old new before after g h history failed last e f (Whole k) =
    Whole (λ d. subst (λ (l : List Entry). Keeps (images new) after.journal l d) (sym (append-nil history))
    (subst (λ (x : X). Keeps (images x) after.journal history d) (sym e) (subst (λ (x : Held). Keeps (images old) x.journal history d) (sym f) (k d))))
carried_same {X} images count old new before after g h history failed last e f (Failing l d c k) =
    Failing l d (Contains-append_left failed [] d c) (subst (λ (l : List Entry). Keeps (images new) after.journal l d) (sym (append-nil history))
    (subst (λ (x : X). Keeps (images x) after.journal history d) (sym e) (subst (λ (x : Held). Keeps (images old) x.journal history d) (sym f) k)))

-- an entry was added
carried_grown : (old new : World) (history : List Entry) (e : Entry) (failed grown : List Entry) (last now : Bool)
    → new.held.journal.stage ≡ Settled → ((d : Entry) → Keeps old.images old.held.journal history d → Keeps new.images new.held.journal (history ++ e ∷ []) d)
    → IsCarried old history failed last → IsCarried new (history ++ e ∷ []) grown now
carried_grown old new history e failed grown last now settled kept (Whole k) = Whole (keeps_each new.images new.held.journal (history ++ e ∷ []) e settled (kept e (k e)))
carried_grown old new history e failed grown last now settled kept (Failing l d c k) = Whole (keeps_each new.images new.held.journal (history ++ e ∷ []) d settled (kept d k))

last_contains : (failed : List Entry) (e : Entry) → Contains (failed ++ e ∷ []) e
last_contains failed e = Contains-append_right failed (e ∷ []) e (0, omega arith, refl)

-- the disk failed under an entry
failed_under : (new : World) (history : List Entry) (d e : Entry) (failed : List Entry) → Contains (failed ++ e ∷ []) d
    → Keeps new.images new.held.journal history d ⊎ Keeps new.images new.held.journal history e → IsCarried new (history ++ []) (failed ++ e ∷ []) true
failed_under new history d e failed c (inl k) = Failing refl d c (subst (λ (l : List Entry). Keeps new.images new.held.journal l d) (sym (append-nil history)) k)
failed_under new history d e failed c (inr k) = Failing refl e (last_contains failed e) (subst (λ (l : List Entry). Keeps new.images new.held.journal l e) (sym (append-nil history)) k)

carried_failed : (old new : World) (history : List Entry) (e : Entry) (failed : List Entry) (last : Bool)
    → ((d : Entry) → Keeps old.images old.held.journal history d → Keeps new.images new.held.journal history d ⊎ Keeps new.images new.held.journal history e)
    → IsCarried old history failed last → IsCarried new (history ++ []) (failed ++ e ∷ []) true
carried_failed old new history e failed last kept (Whole k) = failed_under new history e e failed (last_contains failed e) (kept e (k e))
carried_failed old new history e failed last kept (Failing l d c k) = failed_under new history d e failed (Contains-append_left failed (e ∷ []) d c) (kept d k)

-- memory was wanting
carried_wanting : (old new : World) (history failed : List Entry) (last : Bool)
    → ((d : Entry) → Keeps old.images old.held.journal history d → Keeps new.images new.held.journal history d)
    → IsCarried old history failed last → IsCarried new (history ++ []) (failed ++ []) last
carried_wanting old new history failed last kept (Whole k) = Whole (λ d. subst (λ (l : List Entry). Keeps new.images new.held.journal l d) (sym (append-nil history)) (kept d (k d)))
carried_wanting old new history failed last kept (Failing l d c k) =
    Failing l d (Contains-append_left failed [] d c) (subst (λ (l : List Entry). Keeps new.images new.held.journal l d) (sym (append-nil history)) (kept d k))

-- the moments of a message that found no memory
pub record Spent (ask : Ask) (before after : Option (List ℕ)) : Type 0 where
  pub moments : List ℕ
  pub may : MayBeTaken ask moments
  pub shown : Appends before after (moments ++ [])

spent : (ask : Ask) (before after : Option (List ℕ)) → (after ≡ before) ⊎ ((now : ℕ) × (asks_when ask ≡ true) × Shows now before after) → Spent ask before after
spent ask before after (inl e) = record { moments = []; may = inl refl; shown = same_appends before after e }
spent ask before after (inr s) = record { moments = s.0 ∷ []; may = inr (s.0, s.1, refl); shown = s.2 }

-- what becomes of a message is a turn
pub turned : {X : Type 0} (honest : Type 0) (images : X → List ℕ → Type 0) (count : X → ℕ) (old new : X) (history : List Entry) (before after : Held) (g h : Option (List ℕ)) (a : Archive) (m : Message) (reply : Reply)
    → StandsFor before.present history a → count old ≤ count new → Fares a m history (deed_of honest images count old new before after g h) reply
    → Turned honest (world_of images count old before g) (world_of images count new after h) a history m reply
turned {X} honest images count old new history before after g h a m reply stands later (Stays now one takes is none same held untouched) = record {
  turn = record { moments = moments_of m.ask now; reply = one.reply; entry = None; failed = None; after = one.after };
  reply_is = sym same;
  moves = record {
    after = one.after;
    talks = (AsDefined now one is (ap (λ (o : Option Entry). record { moments = moments_of m.ask now; reply = one.reply; entry = o; failed = None; after = one.after }) (sym none)), refl);
    stands = stays_for before.present after.present history a one.after (ap (λ (w : Held). w.present) held) (asked_keeps a m.ask m.closing now one is none) stands;
    moments = takes_moments (asks_when m.ask) now (deed_of honest images count old new before after g h) takes;
    faults = inl (omega arith);
    disk = λ true_ failed last c. carried_same images count old new before after g h history failed last untouched held c;
  };
}
turned {X} honest images count old new history before after g h a m reply stands later (Grows now one e takes is some same grown ready settled kept) = record {
  turn = record { moments = moments_of m.ask now; reply = one.reply; entry = Some e; failed = None; after = one.after };
  reply_is = sym same;
  moves = record {
    after = one.after;
    talks = (AsDefined now one is (ap (λ (o : Option Entry). record { moments = moments_of m.ask now; reply = one.reply; entry = o; failed = None; after = one.after }) (sym some)), refl);
    stands = grown;
    moments = takes_moments (asks_when m.ask) now (deed_of honest images count old new before after g h) takes;
    faults = inl (omega arith);
    disk = λ true_ failed last c.
        carried_grown (world_of images count old before g) (world_of images count new after h) history e failed (failed ++ []) last false settled (λ d k. kept d (true_, k)) c;
  };
}
turned {X} honest images count old new history before after g h a m reply stands later (Fails now one e takes is some same held kept rose) = record {
  turn = record { moments = moments_of m.ask now; reply = failed_reply m.closing; entry = None; failed = Some e; after = a };
  reply_is = sym same;
  moves = record {
    after = a;
    talks = (WithoutDisk now one e is some refl, refl);
    stands = stays_for before.present after.present history a a held.0 refl stands;
    moments = takes_moments (asks_when m.ask) now (deed_of honest images count old new before after g h) takes;
    faults = rose;
    disk = λ true_ failed last c.
        carried_failed (world_of images count old before g) (world_of images count new after h) history e failed last (λ d k. kept d (true_, k)) c;
  };
}
turned {X} honest images count old new history before after g h a m reply stands later (Wants may same held kept) =
    let s : Spent m.ask g h = spent m.ask g h may in
    record {
      turn = record { moments = s.moments; reply = wanting_reply m.closing; entry = None; failed = None; after = a };
      reply_is = sym same;
      moves = record {
        after = a;
        talks = (WithoutMemory s.moments s.may refl, refl);
        stands = stays_for before.present after.present history a a held.0 refl stands;
        moments = s.shown;
        faults = inl (omega arith);
        disk = λ true_ failed last c.
            carried_wanting (world_of images count old before g) (world_of images count new after h) history failed last (λ d k. kept d (true_, k)) c;
      };
    }
