-- What a reader gives, by the first thing in its rest.
use Rattle.std.proofs.Common.{◌≡◌, ℕ, ◌+◌, List, [], ◌∷◌, drop, Some, None, Bool, true, false, refl, sym, ap, ◌∙◌, subst}
use Rattle.std.proofs.lemmas.List.{drop-drop}
use Rattle.cite_http.specs.Heads.{begun}
use Rattle.cite_http.specs.Reading as meant
use Rattle.cite_http.specs.Reading.{Reads}
use Rattle.cite_http.specs.Messages.{message_of, size_of, Rest, Gives, Closed, Waits, Given, Messages, End, Then, whole}
use Rattle.cite_http.specs.Pieces.{HasMessages}
use Rattle.cite_http.specs.Offsets.{meant_by}
use Rattle.cite_http.specs.First.{IsFirst}
use Rattle.cite_http.specs.declared.first.First.{First}
use Rattle.cite_http.specs.declared.message.Message.{Message}

-- after a closing message
pub gives_closed : (r : Rest) → r.closed ≡ true → Gives r None r
gives_closed r e = let P : Bool → Type 0 = λ c. Gives (record { bytes = r.bytes; closed = c }) None (record { bytes = r.bytes; closed = c }) in subst P (sym e) (Closed r.bytes)

-- of a rest from a progress on
pub gives_none : (xs : List ℕ) (start : ℕ) (closed : Bool) (f : First) → closed ≡ false → IsFirst (drop start xs) f → meant_by (drop f.skipped (drop start xs)) f.found ≡ meant.Unfinished
    → Gives (record { bytes = drop start xs; closed = closed }) None (record { bytes = drop (start + f.skipped) xs; closed = closed })
gives_none xs start closed f c i u =
    let P : List ℕ → Type 0 = λ t. Reads t meant.Unfinished in
    let F : meant.Found → Type 0 = λ g. Reads (drop f.skipped (drop start xs)) g in
    let Q : List ℕ → Type 0 = λ t. Gives (whole (drop start xs)) None (whole t) in
    let R : Bool → Type 0 = λ b. Gives (record { bytes = drop start xs; closed = b }) None (record { bytes = drop (start + f.skipped) xs; closed = b }) in
    subst R (sym c) (subst Q (sym i.front ∙ drop-drop f.skipped start xs) (Waits (drop start xs) (subst P i.front (subst F u i.reads))))

pub gives_some : (xs : List ℕ) (start n : ℕ) (closed : Bool) (f : First) (m : Message) → closed ≡ false → IsFirst (drop start xs) f
    → message_of (meant_by (drop f.skipped (drop start xs)) f.found) ≡ Some m → size_of (meant_by (drop f.skipped (drop start xs)) f.found) ≡ n
    → Gives (record { bytes = drop start xs; closed = closed }) (Some m) (record { bytes = drop (start + (f.skipped + n)) xs; closed = m.closing })
gives_some xs start n closed f m c i e s =
    let g : meant.Found = meant_by (drop f.skipped (drop start xs)) f.found in
    let P : List ℕ → Type 0 = λ t. Reads t g in
    let Q : List ℕ → Type 0 = λ t. Gives (whole (drop start xs)) (Some m) (record { bytes = t; closed = m.closing }) in
    let R : Bool → Type 0 = λ b. Gives (record { bytes = drop start xs; closed = b }) (Some m) (record { bytes = drop (start + (f.skipped + n)) xs; closed = m.closing }) in
    let d : drop (size_of g) (begun (drop start xs)) ≡ drop (start + (f.skipped + n)) xs =
    ap (drop (size_of g)) (sym i.front) ∙ ap (λ k. drop k (drop f.skipped (drop start xs))) s ∙ drop-drop n f.skipped (drop start xs) ∙ drop-drop (f.skipped + n) start xs in
    subst R (sym c) (subst Q d (Given (drop start xs) g m (subst P i.front i.reads) e))

-- the messages of a text, by the first thing in it
pub ends_waiting : (xs : List ℕ) (start : ℕ) (f : First) → IsFirst (drop start xs) f → meant_by (drop f.skipped (drop start xs)) f.found ≡ meant.Unfinished → HasMessages (whole (drop start xs))
ends_waiting xs start f i u = ([], whole (drop (start + f.skipped) xs), End _ _ (gives_none xs start false f refl i u))

pub ends_closing : (xs : List ℕ) (start n : ℕ) (f : First) (m : Message) → IsFirst (drop start xs) f
    → message_of (meant_by (drop f.skipped (drop start xs)) f.found) ≡ Some m → size_of (meant_by (drop f.skipped (drop start xs)) f.found) ≡ n
    → m.closing ≡ true → HasMessages (whole (drop start xs))
ends_closing xs start n f m i e s c =
    let r : Rest = record { bytes = drop (start + (f.skipped + n)) xs; closed = m.closing } in
    (m ∷ [], r, Then _ r r m [] (gives_some xs start n false f m refl i e s) (End r r (gives_closed r c)))

pub goes_on : (xs : List ℕ) (start n : ℕ) (f : First) (m : Message) → IsFirst (drop start xs) f
    → message_of (meant_by (drop f.skipped (drop start xs)) f.found) ≡ Some m → size_of (meant_by (drop f.skipped (drop start xs)) f.found) ≡ n
    → m.closing ≡ false → HasMessages (whole (drop (start + (f.skipped + n)) xs)) → HasMessages (whole (drop start xs))
goes_on xs start n f m i e s c h =
    let r : Rest = record { bytes = drop (start + (f.skipped + n)) xs; closed = m.closing } in
    let P : Bool → Type 0 = λ b. Messages (record { bytes = drop (start + (f.skipped + n)) xs; closed = b }) h.0 h.1 in
    (m ∷ h.0, h.1, Then _ r h.1 m h.0 (gives_some xs start n false f m refl i e s) (subst P (sym c) h.2))
