-- Histories, one entry more.
use Rattle.std.proofs.Common.{◌≡◌, ℕ, zero, suc, ◌+◌, Bool, true, false, ◌&&◌, cond, List, [], ◌∷◌, ◌++◌, Option, Some, None, length, refl, sym, ap, ◌∙◌, subst, arith, length-append}
use Rattle.std.specs.Prelude.{◌==◌, option_map, if◌then◌else◌}
use Rattle.std.specs.List.{find}
use Rattle.std.specs.Option.{option_or}
use Rattle.std.specs.Ordering.{is_eq}
use Rattle.std.specs.declared.cmp.Ordering.{Ordering}
use Rattle.std.specs.declared.cmp.Ordering.TheVariants.{Less, Equal, Greater}
use Rattle.std.proofs.lemmas.Bool.Decides.{nat_tests}
use Rattle.sha2.specs.Sha256.{sha256}
use Rattle.cite_schema.specs.Headings.{Heading}
use Rattle.cite_schema.specs.Values.{text_cmp}
use Rattle.cite_schema.specs.declared.value.Value.{Value}
use Rattle.cite_schema.specs.declared.line.Line.{Line}
use Rattle.cite_schema.specs.declared.step.Step.{Step}
use Rattle.cite_schema.specs.declared.batch_ask.BatchAsk.{BatchAsk}
use Rattle.cite_schema.proofs.Orders.{text_exact}
use Rattle.cite_schema.proofs.Rising.{and_first, and_second}
use Rattle.entry_codec.specs.declared.entry.Entry.{Entry}
use Rattle.entry_codec.specs.declared.entry.Entry.TheVariants.{Found, Batch, Cite, Migrate}
use Rattle.batches.specs.Bodies.{is_word}
use Rattle.archive_model.specs.Archives.{Archive, Version, Minted, version_count}
use Rattle.archive_model.specs.Batching.{batch_of, batch_in, with_batch}
use Rattle.archive_model.specs.Histories.{Makes, Runs, LeadsTo, founded, batch_ask, cite_ask}
use Rattle.archive_model.specs.ArchiveLaws.{HistoriesGrow, EntriesAreCounted, HistoriesGrowByEntries}
use Rattle.archive_model.proofs.Made.{batched, cited, moved}
use Rattle.archive_model.proofs.Counted.{length_carried}

runs_push : (a : Archive) (es : List Entry) (b c : Archive) (e : Entry) → Runs a es b → Makes b e c → Runs a (es ++ e ∷ []) c
runs_push a [] b c e h m = (c, subst (λ x. Makes x e c) (sym h) m, refl)
runs_push a (d ∷ es) b c e (next, k, h) m = (next, k, runs_push next es b c e h m)

pub grow : HistoriesGrow
grow [] a b e h m = absurd h
grow (Found f ∷ es) a b e h m = (h.0, runs_push (founded f) es a b e h.1 m)
grow (Batch d ∷ es) a b e h m = absurd h
grow (Cite d ∷ es) a b e h m = absurd h
grow (Migrate d ∷ es) a b e h m = absurd h

-- how many versions and citations there are
abbrev counted : Archive → ℕ
counted a = version_count a + length a.minted

one_more : (a : Archive) (e : Entry) (b : Archive) → Makes a e b → counted b ≡ counted a + 1
one_more a (Found e) b k = absurd k
one_more a (Batch e) b k = let same = ap counted (sym (batched a (batch_ask e) e.stamp (Batch e) b k.1).is) in same ∙ sum (length a.older) (length a.minted)
  where
    sum : (n m : ℕ) → suc n + 1 + m ≡ n + 1 + m + 1
    sum n m = omega arith
one_more a (Cite e) b (o, s, k) =
    let m = cited a (cite_ask e) e.stamp o (Cite e) b s k in
    ap counted (sym m.is) ∙ ap (λ n. version_count a + n) (length-append a.minted _) ∙ sum (version_count a) (length a.minted)
  where
    sum : (n m : ℕ) → n + (m + 1) ≡ n + m + 1
    sum n m = omega arith
one_more a (Migrate e) b (o, s, k) =
    let m = moved a e.schema e.steps e.stamp o (Migrate e) b s k in
    ap counted (sym m.is) ∙ ap (λ n. suc (length a.older) + 1 + n) (length_carried a e.steps a.minted m.verdict.minted m.verdict.carried) ∙ sum (length a.older) (length a.minted)
  where
    sum : (n m : ℕ) → suc n + 1 + m ≡ n + 1 + m + 1
    sum n m = omega arith

runs_counted : (a : Archive) (es : List Entry) (b : Archive) → Runs a es b → counted b ≡ counted a + length es
runs_counted a [] b h = let same = ap counted (sym h) in omega (arith, same)
runs_counted a (e ∷ es) b (next, m, h) = let here = one_more a e next m in let more = runs_counted next es b h in omega (arith, here, more)

pub entries_counted : EntriesAreCounted
entries_counted [] a h = absurd h
entries_counted (Found f ∷ es) a h = let all = runs_counted (founded f) es a h.1 in omega (arith, all)
entries_counted (Batch e ∷ es) a h = absurd h
entries_counted (Cite e ∷ es) a h = absurd h
entries_counted (Migrate e ∷ es) a h = absurd h

pub all_grow : HistoriesGrowByEntries
all_grow = (grow, entries_counted)
