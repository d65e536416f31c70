use Rattle.std.proofs.Common.{◌≡◌, ◌<◌, List, None, length, slice_get, sym, subst, refl}
use Rattle.std.specs.Prelude.{IsSomeAnd}
use Rattle.subset_query.specs.declared.form.ColumnSet.{ColumnSet}
use Rattle.migration.specs.Sets.{set_after}
use Rattle.migration.specs.Carrying.{Changes, IsSetAfter, AreSetsAfter}
use Rattle.migration.proofs.Placed.{at_place}
use Rattle.migration.proofs.CarriedParts.{some_within, set_after_set}
use Rattle.migration.proofs.parts.changed.Goals as goal

pub returns-in-Some : goal.returns-in-Some
returns-in-Some c =
    let step = c.args.step.now in
    let items = c.into_vec-sets.result.items in
    let there = subst (λ (l : List ColumnSet). c.args.place < length l) (sym c.into_vec-sets.ensures) (some_within (Changes step) c.args.place c.args.parts.sets c.requires) in
    let here = set_after_set step c.args.place items c.index.result.now c.in-Some.set there c.index.ensures (subst (IsSetAfter step c.index.result.now) c.in-Some.is c.in_ok-set.ensures) in
    (subst (λ (l : List ColumnSet). AreSetsAfter step c.args.place l c.from_vec-sets.result) c.into_vec-sets.ensures (subst (AreSetsAfter step c.args.place items) (sym c.from_vec-sets.ensures) here), refl, refl)

pub returns-in-None : goal.returns-in-None
returns-in-None c =
    let step = c.args.step.now in
    let items = c.into_vec-sets.result.items in
    let there = subst (λ (l : List ColumnSet). c.args.place < length l) (sym c.into_vec-sets.ensures) (some_within (Changes step) c.args.place c.args.parts.sets c.requires) in
    let none = subst (IsSetAfter step c.index.result.now) c.in-None.is c.in_ok-set.ensures in
    subst (λ (l : List ColumnSet). IsSomeAnd (slice_get l c.args.place) (λ s. set_after step s ≡ None)) c.into_vec-sets.ensures
    (subst (λ o. IsSomeAnd o (λ s. set_after step s ≡ None)) (sym (at_place c.args.place items c.index.result.now there)) (subst (λ s. set_after step s ≡ None) c.index.ensures none))
