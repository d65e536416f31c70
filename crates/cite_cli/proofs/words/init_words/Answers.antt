use Rattle.std.proofs.Common.{List, ℕ, refl, [], ◌≡◌, ◌∷◌, drop, length, ◌-◌, ◌==◌, take, ap, sym, ◌∙◌, String, Global, false, true, Bool}
use Rattle.std.specs.Prelude.{string_bytes}
use Rattle.cite_cli.proofs.Streaming.{rest_whole}
use Rattle.cite_cli.proofs.WordLists.{init_form}
use Rattle.cite_cli.proofs.words.init_words.Goals as goal

-- what has a length that is not 0 is not empty
not_empty : {A : Type 0} (xs : List A) → false ≡ (length xs == 0) → xs ≡ [] → ⊥
not_empty [] e same = absurd (cc)
not_empty (x ∷ xs) e same = absurd (cc)

pub returns : goal.returns
returns c =
    let words = c.args.words.now in
    let rest = take (length words - 5) (drop 5 words) in
    rw (c.as_bytes.ensures.value, c.as_bytes-2.ensures.value, c.as_bytes-3.ensures.value, c.as_bytes-4.ensures.value)
    (init_form string_bytes words c.command-item.result c.prefix-item.result c.publisher-item.result c.creator-item.result c.title-item.result rest
    c.in-len5-up.len_at_least c.command-item.is c.prefix-item.is c.publisher-item.is c.creator-item.is c.title-item.is
    (rest_whole 5 words) (not_empty rest c.if-is_empty.ensures) (c.if-not-says.ensures.0 refl))
