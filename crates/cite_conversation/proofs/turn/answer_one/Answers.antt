use Rattle.std.proofs.Common.{◌∙◌}
use Rattle.cite_conversation.proofs.Faring.{turned}
use Rattle.cite_conversation.proofs.Passing.{one_went, one_cut}
use Rattle.cite_conversation.proofs.turn.answer_one.Goals as goal

pub returns-in-Ok-put_all-clause-went : goal.returns-in-Ok-put_all-clause-went
returns-in-Ok-put_all-clause-went g c = λ history a s.
    let f = c.in-Ok.ensures.fares history a s in
    let t = turned g.D.Disk.honest g.D.Disk.images g.D.Disk.fault_count c.args.disk.now c.answer.new.disk history c.args.desk.now c.answer.new.desk
    (g.C.Clock.given c.args.clock.now) (g.C.Clock.given c.answer.new.clock) a c.args.message.now f.0 s c.in-Ok.ensures.later f.1 in
    one_went _ _ _ _ _ _ _ a history c.args.message.now f.0 c.in-Ok.reply c.as_slice.result.now t f.2 (c.as_slice.ensures ∙ c.in-Ok-respond.ensures) c.in-Ok-put_all.ensures.all

pub returns-clause-went : goal.returns-clause-went
returns-clause-went g c = λ history a s.
    let f = c.in-Ok.ensures.fares history a s in
    let t = turned g.D.Disk.honest g.D.Disk.images g.D.Disk.fault_count c.args.disk.now c.answer.new.disk history c.args.desk.now c.answer.new.desk
    (g.C.Clock.given c.args.clock.now) (g.C.Clock.given c.answer.new.clock) a c.args.message.now f.0 s c.in-Ok.ensures.later f.1 in
    one_cut _ _ _ _ _ _ _ a history c.args.message.now f.0 c.in-Ok.reply c.as_slice.result.now t f.2 (c.as_slice.ensures ∙ c.in-Ok-respond.ensures) c.in-Err.ensures.front c.in-Err.ensures.cause
