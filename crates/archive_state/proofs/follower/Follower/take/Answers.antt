use Rattle.std.proofs.Common.{Option, subst}
use Rattle.archive_state.specs.declared.present.Present.{Present}
use Rattle.archive_state.specs.Following.{IsFollower, TakesOver}
use Rattle.archive_state.proofs.Followers.{stands_over}
use Rattle.archive_state.proofs.follower.Follower.take.Goals as goal

pub invariant_of-self : goal.invariant_of-self
invariant_of-self c =
    let is = subst (λ (p : Option Present). IsFollower p) c.self.view_is c.self.invariant in
    stands_over c.args.self.now c.in-Some.entry c.in-Some-2.next is
    (λ history follows. subst (λ (next : Option Present). TakesOver history c.in-Some.entry next) c.in-Some-2.is (c.in_ok-after.ensures history follows))
