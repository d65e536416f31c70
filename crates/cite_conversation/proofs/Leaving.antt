-- What the disk stands for after messages.
use Rattle.std.proofs.Common.{◌≡◌, ◌≢◌, ℕ, true, false, ◌⊎◌, inl, inr, List, [], ◌∷◌, ◌++◌, Option, refl, sym, ◌∙◌}
use Rattle.std.specs.List.{Contains}
use Rattle.archive_journal.specs.declared.journal.Journal.{Journal}
use Rattle.archive_journal.specs.declared.journal.Stage.{Stage}
use Rattle.archive_journal.specs.declared.journal.Stage.TheVariants.{Settled, Staged, Opened}
use Rattle.archive_journal.specs.Records.{Shut, Gated}
use Rattle.archive_journal.specs.Stands.{Image}
use Rattle.entry_codec.specs.declared.entry.Entry.{Entry}
use Rattle.entry_codec.specs.declared.entry.Entry.TheVariants.{Found, Batch, Cite, Migrate}
use Rattle.entry_codec.specs.declared.entry.FoundEntry.{FoundEntry}
use Rattle.entry_codec.specs.Payloads.{payload}
use Rattle.archive_model.specs.Archives.{Archive}
use Rattle.archive_model.specs.Histories.{Runs, LeadsTo, founded}
use Rattle.archive_core.specs.Keeping.{Keeps, MayFollow, payloads_of}
use Rattle.cite_http.specs.declared.message.Message.{Message}
use Rattle.cite_conversation.specs.Turns.{Turn, entries_in, failed_in, fails_last}
use Rattle.cite_conversation.specs.Conversations.{Around, IsLeft, Went}
use Rattle.cite_conversation.specs.Steps.{World, IsCarried, Whole, Failing, Moves}

-- no archive makes a founding
no_founding : (a : Archive) (es : List Entry) (f : FoundEntry) (b : Archive) → Runs a (es ++ Found f ∷ []) b → ⊥
no_founding a [] f b r = r.1
no_founding a (e ∷ es) f b r = no_founding r.0 es f b r.2

-- so not each entry can stand behind a history
not_each : (history : List Entry) (a : Archive) → LeadsTo history a → ((d : Entry) → MayFollow history d) → ⊥
not_each [] a l each = l
not_each (Found f ∷ es) a l each = let m = each (Found f) in no_founding (founded f) es f m.0 m.1.1
not_each (Batch e ∷ es) a l each = l
not_each (Cite e ∷ es) a l each = l
not_each (Migrate e ∷ es) a l each = l

-- a journal that keeps a history under each entry is settled
is_settled : (images : List ℕ → Type 0) (j : Journal) (history : List Entry) (a : Archive) → LeadsTo history a → ((d : Entry) → Keeps images j history d) → j.stage ≡ Settled
is_settled images j history a l each = by j.stage refl
  where
    no : j.stage ≢ Settled → ⊥
    no un = not_each history a l (λ d. (each d).legal un)

    by : (s : Stage) → j.stage ≡ s → j.stage ≡ Settled
    by Settled e = e
    by Staged e = absurd (no (λ z. let w : Staged ≡ Settled = sym e ∙ z in absurd (cc)))
    by Opened e = absurd (no (λ z. let w : Opened ≡ Settled = sym e ∙ z in absurd (cc)))

-- what a crash may leave, by the stage
shut_image : (s : Stage) (ps : List (List ℕ)) (p b : List ℕ) → s ≡ Settled → Image s ps p b → Shut ps b
shut_image Settled ps p b e i = i
shut_image Staged ps p b e i = i
shut_image Opened ps p b e i = absurd (cc)

any_image : (s : Stage) (history failed : List Entry) (d : Entry) (b : List ℕ) → Contains failed d → (s ≢ Settled → MayFollow history d) → Image s (payloads_of history) (payload d) b
    → Shut (payloads_of history) b ⊎ ((e : Entry) × Contains failed e × MayFollow history e × Gated (payloads_of history) (payload e) b)
any_image Settled history failed d b c may i = inl i
any_image Staged history failed d b c may i = inl i
any_image Opened history failed d b c may i = inr (d, c, may (λ z. absurd (cc)), i)

left_so : (w : World) (history : List Entry) (a : Archive) (turns : List Turn) → LeadsTo history a → IsCarried w history (failed_in turns) (fails_last turns) → IsLeft w.images history turns
left_so w history a turns l (Whole k) =
    let d : Entry = some_entry history a l in
    let settled : w.held.journal.stage ≡ Settled = is_settled w.images w.held.journal history a l k in
    let all : (b : List ℕ) → w.images b → Shut (payloads_of history) b = λ b i. shut_image w.held.journal.stage (payloads_of history) (payload d) b settled ((k d).stands.each b i) in
    record { shut = λ no. all; each = λ b i. inl (all b i) }
  where
    some_entry : (history : List Entry) (a : Archive) → LeadsTo history a → Entry
    some_entry [] a l = absurd l
    some_entry (e ∷ es) a l = e
left_so w history a turns l (Failing t d c k) = record {
  shut = λ no b i. let z : true ≡ false = sym t ∙ no in absurd (cc);
  each = λ b i. any_image w.held.journal.stage history (failed_in turns) d b c k.legal (k.stands.each b i);
}

-- what was seen of a conversation
abbrev pub around : (honest : Type 0) (old new : World) (left_before left_after : Option (List ℕ)) (reads_before reads_after : ℕ) (written_before written_after : Option (List ℕ)) (writes_before writes_after : ℕ) → Around
around honest old new left_before left_after reads_before reads_after written_before written_after writes_before writes_after = record {
  left_before = left_before;
  left_after = left_after;
  reads_before = reads_before;
  reads_after = reads_after;
  written_before = written_before;
  written_after = written_after;
  writes_before = writes_before;
  writes_after = writes_after;
  given_before = old.given;
  given_after = new.given;
  honest = honest;
  images = new.images;
  faults_before = old.faults;
  faults_after = new.faults;
}

-- the messages went so
pub went_so : (honest : Type 0) (old new : World) (lb la : Option (List ℕ)) (rb ra : ℕ) (wb wa : Option (List ℕ)) (fb fa : ℕ) (a : Archive) (history : List Entry) (given : List Message) (turns : List Turn)
    → (honest → (d : Entry) → Keeps old.images old.held.journal history d) → Moves honest old new a history given turns → Went a history given turns (around honest old new lb la rb ra wb wa fb fa)
went_so honest old new lb la rb ra wb wa fb fa a history given turns kept m = record {
  after = m.after;
  talks = m.talks;
  moments = m.moments;
  faults = m.faults;
  leads = m.stands.leads;
  left = λ h. left_so new (history ++ entries_in turns) m.after turns m.stands.leads (m.disk h [] false (Whole (kept h)));
}
