use Rattle.std.proofs.Common.{◌+◌, ◌∷◌, [], ◌++◌, List, sym, ap, ◌∙◌, subst}
use Rattle.query_store.specs.declared.citation.Citation.{Citation}
use Rattle.query_store.specs.Places.{citations_of, AreNumbered, IsIndex}
use Rattle.query_store.proofs.Numbers.{all_numbered, all_the_same}
use Rattle.query_store.proofs.Indexing.{index_with}
use Rattle.query_store.proofs.store.Store.room_for.Goals as goal

pub returns : goal.returns
returns c = record {
  citations_are = ap citations_of c.in_ok-older.ensures ∙ all_the_same c.self.inside.older c.self.inside.newest ∙ c.self.view_is;
  numbered = subst (AreNumbered 1) (sym c.in_ok-older.ensures) (all_numbered c.self.inside.older c.self.inside.newest c.self.invariant.numbered);
  indexed =
      subst (IsIndex (c.args.self.now ++ c.args.citation.now ∷ [])) (sym c.in_ok-index.ensures)
      (index_with c.args.self.now c.self.inside.index c.args.citation.now (c.count.result + 1) (ap (λ n. n + 1) c.count.ensures) (subst (λ (cs : List Citation). IsIndex cs c.self.inside.index) c.self.view_is c.self.invariant.indexed));
}
