use Rattle.std.proofs.Common.{arith, length-drop, List, ℕ, subst}
use Rattle.cite_ports.specs.Ports.{Holds}
use Rattle.cite_conversation.proofs.Streaming.{holds_more, front_more, rest_whole}
use Rattle.cite_conversation.proofs.output.put_all.Goals as goal

pub loop-at-preserved : goal.loop-at-preserved
loop-at-preserved g c = record {
  put = subst (λ (bytes : List ℕ). Holds bytes (g.K.Sink.written c.args.sink.now) (g.K.Sink.written c.put.new.self))
      (front_more c.loop-at.at c.in_ok-at.field-0 c.args.bytes.now)
      (holds_more _ _ _ _ _ c.loop-at.invariant.put c.in_ok-at.ensures.puts);
  faults = omega (arith, c.in_ok-at.ensures.never_falls);
  within = let r = rw (rest_whole c.loop-at.at c.args.bytes.now) at c.in_ok-at.ensures.room in omega (arith, length-drop {A = ℕ});
}
