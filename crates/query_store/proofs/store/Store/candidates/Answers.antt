use Rattle.std.proofs.Common.{List, refl, subst}
use Rattle.query_store.specs.declared.citation.Citation.{Citation}
use Rattle.query_store.specs.declared.finding.Finding.{Finding}
use Rattle.query_store.specs.Places.{IsIndex}
use Rattle.query_store.proofs.Candidates.{are_candidates}
use Rattle.query_store.proofs.store.Store.candidates.Goals as goal

pub returns : goal.returns
returns c =
    let probe : Finding = record { query_sha = c.in_ok-form_digest.field-0; result_sha = c.args.result_sha.now; number = 0 } in
    are_candidates c.args.self.now c.self.inside.index c.args.normal.now c.args.result_sha.now probe (subst (λ (cs : List Citation). IsIndex cs c.self.inside.index) c.self.view_is c.self.invariant.indexed) c.in_ok-form_digest.ensures refl refl
    c.in_ok-numbers.numbers c.len-count.ensures.sorted c.in_ok-numbers.ensures
