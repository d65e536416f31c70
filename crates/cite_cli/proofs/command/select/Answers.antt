use Rattle.std.proofs.Common.{List, ℕ, inl, inr, subst}
use Rattle.cite_cli.specs.declared.select.Output.{Output}
use Rattle.cite_cli.specs.Parts.{Explains}
use Rattle.cite_conversation.specs.Streams.{PutsFront}
use Rattle.cite_cli.specs.Select.{IsDue}
use Rattle.cite_cli.proofs.command.select.Goals as goal

pub returns-in-Ok-Done : goal.returns-in-Ok-Done
returns-in-Ok-Done g c given =
    let full = subst (λ (out : Output). Explains c.args.column.now c.args.bounds.now c.as_slice.result.now out) c.in-Ok-Done.field-0-is c.in-Ok-Done.ensures in (
      c.in-Ok.text.items,
      c.in-Ok-Done.bytes,
      (c.in-Ok.ensures.all, c.in-Ok.ensures.few),
      subst (λ (text : List ℕ). IsDue c.args.column.now c.args.bounds.now text c.in-Ok-Done.bytes) c.as_slice.ensures.value (inl full),
      c.in-Err-put_all.ensures.cause,
      subst (λ (bytes : List ℕ). PutsFront bytes (g.K.Sink.written c.args.sink.now) (g.K.Sink.written c.put_all.new.sink)) c.as_slice-in-Ok-Done.ensures c.in-Err-put_all.ensures.front,
    )

pub returns-in-Ok-Refused : goal.returns-in-Ok-Refused
returns-in-Ok-Refused g c given =
    let refused = subst (λ (out : Output). Explains c.args.column.now c.args.bounds.now c.as_slice.result.now out) c.in-Ok-Refused.field-0-is c.in-Ok-Refused.ensures in (
      c.in-Ok.text.items,
      c.in-Ok-Refused.line,
      (c.in-Ok.ensures.all, c.in-Ok.ensures.few),
      subst (λ (text : List ℕ). IsDue c.args.column.now c.args.bounds.now text c.in-Ok-Refused.line) c.as_slice.ensures.value (inr refused),
      c.in-Err-put_all-2.ensures.cause,
      subst (λ (bytes : List ℕ). PutsFront bytes (g.K.Sink.written c.args.sink.now) (g.K.Sink.written c.put_all-in-Ok-Refused.new.sink)) c.as_slice-in-Ok-Refused.ensures c.in-Err-put_all-2.ensures.front,
    )
