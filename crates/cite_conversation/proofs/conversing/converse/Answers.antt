use Rattle.std.proofs.Common.{◌≡◌, ◌++◌, ◌<◌, ◌∙◌, take, drop, length-take, sym, ap, subst, refl, arith}
use Rattle.std.proofs.lemmas.List.{take-append-le}
use Rattle.cite_http.specs.Messages.{Rest, fed}
use Rattle.cite_http.proofs.Steps.{nothing_given}
use Rattle.cite_conversation.specs.Turns.{entries_in}
use Rattle.cite_conversation.specs.Steps.{Sofar, Waits}
use Rattle.cite_conversation.proofs.Faring.{world_of}
use Rattle.cite_conversation.proofs.Passing.{sunk_of, rose_later}
use Rattle.cite_conversation.proofs.Streaming.{keeps_same}
use Rattle.cite_conversation.proofs.Ending.{sofar_start, stops, ends_inside, ends_piece, goes_piece}
use Rattle.cite_conversation.proofs.conversing.converse.Goals as goal

pub pieces-init : goal.pieces-init
pieces-init g c = record {
  sofar = λ history a s. subst (λ (r : Rest). Sofar g.D.Disk.honest (world_of g.D.Disk.images g.D.Disk.fault_count c.args.disk.now c.args.desk.now (g.C.Clock.given c.args.clock.now))
      (world_of g.D.Disk.images g.D.Disk.fault_count c.args.disk.now c.args.desk.now (g.C.Clock.given c.args.clock.now))
      (sunk_of (g.K.Sink.written c.args.sink.now) (g.K.Sink.written c.args.sink.now) (g.K.Sink.faults_of c.args.sink.now) (g.K.Sink.faults_of c.args.sink.now))
      (g.S.Source.left c.args.source.now) (g.S.Source.left c.args.source.now) 0 r a history) (sym c.in-Ok.ensures) (sofar_start _ _ _ _ _ a history s);
  waits = subst Waits (sym c.in-Ok.ensures) (record { none = nothing_given; unclosed = refl });
  few = omega arith;
  kept = c.requires.kept;
  later = omega arith;
  reads = omega arith;
  writes = omega arith;
}

pub returns-in-Err-clause-ended : goal.returns-in-Err-clause-ended
returns-in-Err-clause-ended g c = λ history a s kept. (
  stops _ _ _ _ _ _ _ _ _ (g.S.Source.left c.take.new.self) (g.S.Source.faults_of c.args.source.now) (g.S.Source.faults_of c.take.new.self) _ c.pieces.reader a history (λ n. n < 4294967296)
      kept (c.pieces.invariant.sofar history a s) c.pieces.invariant.waits c.in-Err.ensures.kept c.pieces-test.true,
  rose_later _ _ _ c.pieces.invariant.reads c.in-Err.ensures.cause,
)

pub returns-in-Ok-eq0-clause-ended : goal.returns-in-Ok-eq0-clause-ended
returns-in-Ok-eq0-clause-ended g c = λ history a s kept.
    ends_inside _ _ _ _ _ _ _ _ _ (g.S.Source.left c.take.new.self) (g.S.Source.faults_of c.args.source.now) (g.S.Source.faults_of c.take.new.self) _ c.pieces.reader a history c.take.new.into c.in-Ok-eq0.field-0 c.end_at.result
    kept (c.pieces.invariant.sofar history a s) c.pieces.invariant.waits c.in-Ok-eq0.ensures.gives c.in-Ok-eq0.ensures.end c.in-Ok-eq0.field-0-test c.pieces-test.true c.end_at.ensures

pub returns-in-Some-clause-ended : goal.returns-in-Some-clause-ended
returns-in-Some-clause-ended g c = λ history a s kept.
    let p = c.pieces.invariant.sofar history a s in
    let fed_is : c.feed.new.self ≡ fed c.pieces.reader (take c.in-Ok-take.n c.take.new.into) =
    c.in-Ok-feed.ensures.ok ∙ ap (fed c.pieces.reader) (take-append-le c.in-Ok-take.n c.take.new.into (drop c.min-room.result c.pieces.piece) c.in-Ok-take.ensures.room) in
    ends_piece _ _ _ (world_of g.D.Disk.images g.D.Disk.fault_count c.answer_all.new.disk c.answer_all.new.desk (g.C.Clock.given c.answer_all.new.clock))
    _ _ (g.K.Sink.written c.answer_all.new.sink) _ _ (g.K.Sink.faults_of c.answer_all.new.sink) _ _ (g.S.Source.left c.take.new.self) (g.S.Source.faults_of c.args.source.now) (g.S.Source.faults_of c.take.new.self) _
    c.pieces.reader c.feed.new.self c.answer_all.new.reader a history (take c.in-Ok-take.n c.take.new.into) c.in-Some.end
    kept p c.in-Ok-take.ensures.gives c.pieces.invariant.writes fed_is (c.in-Some.ensures.went (history ++ entries_in p.turns) p.moves.after p.moves.stands)

pub pieces-preserved : goal.pieces-preserved
pieces-preserved g c =
    let fed_is : c.feed.new.self ≡ fed c.pieces.reader (take c.in-Ok-take.n c.take.new.into) =
    c.in-Ok-feed.ensures.ok ∙ ap (fed c.pieces.reader) (take-append-le c.in-Ok-take.n c.take.new.into (drop c.min-room.result c.pieces.piece) c.in-Ok-take.ensures.room) in
    record {
      sofar = λ history a s.
          let p = c.pieces.invariant.sofar history a s in
          goes_piece _ _ _ (world_of g.D.Disk.images g.D.Disk.fault_count c.answer_all.new.disk c.answer_all.new.desk (g.C.Clock.given c.answer_all.new.clock))
          _ _ (g.K.Sink.written c.answer_all.new.sink) _ _ (g.K.Sink.faults_of c.answer_all.new.sink) _ _ (g.S.Source.left c.take.new.self) _ c.in-Ok-take.n
          c.pieces.reader c.feed.new.self c.answer_all.new.reader a history c.take.new.into
          p c.in-Ok-take.ensures.gives c.in-Ok-take.ensures.room fed_is c.answer_all.result c.in_default-answer_all.is (c.answer_all.ensures.went (history ++ entries_in p.turns) p.moves.after p.moves.stands);
      waits = c.in_default-answer_all.ensures.waits;
      few = omega (arith, c.take.auto.into, c.in-Ok-take.ensures.room, c.min-room.ensures, length-take c.min-room.result c.pieces.piece);
      kept = c.answer_all.ensures.kept;
      later = omega (arith, c.answer_all.ensures.later);
      reads = omega (arith, c.in-Ok-take.ensures.never_falls);
      writes = omega (arith, c.answer_all.ensures.never_falls);
    }

pub returns-clause-ended : goal.returns-clause-ended
returns-clause-ended g c = λ history a s kept.
    stops _ _ _ _ _ _ _ _ _ (g.S.Source.left c.pieces.source) (g.S.Source.faults_of c.args.source.now) (g.S.Source.faults_of c.pieces.source) _ c.pieces.reader a history (λ n. n ≡ 4294967296)
    kept (c.pieces.invariant.sofar history a s) c.pieces.invariant.waits (keeps_same (g.S.Source.left c.pieces.source)) (omega (arith, c.pieces.invariant.few, c.pieces-test.false))
