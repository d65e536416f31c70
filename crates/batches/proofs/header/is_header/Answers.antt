use Rattle.std.proofs.Common.{◌∙◌, ap, drop, false}
use Rattle.csv.specs.Records.{fields_of}
use Rattle.batches.proofs.Headers.{header_test, first_and_rest, first_of, wide}
use Rattle.batches.proofs.header.is_header.Goals as goal

pub returns-then-len-columns : goal.returns-then-len-columns
returns-then-len-columns c = header_test c.args.columns.now (fields_of c.args.head.now) false (λ e. absurd (cc)) (λ e. absurd (c.if-len-columns.true (c.len.ensures ∙ wide c.args.columns.now (fields_of c.args.head.now) e)))

pub returns-then-is_text : goal.returns-then-is_text
returns-then-is_text c =
    header_test c.args.columns.now (fields_of c.args.head.now) c.has_names.result
    (λ named. first_and_rest c.args.columns.now (fields_of c.args.head.now) c.field.result.now c.field.ensures (c.is_text.ensures.0 c.if-is_text.true) (c.has_names.ensures.0 named))
    (λ e. c.has_names.ensures.1 (ap (λ l. drop 1 l) e))

pub returns-else-is_text : goal.returns-else-is_text
returns-else-is_text c =
    header_test c.args.columns.now (fields_of c.args.head.now) c.is_text.result (λ e. let not = c.if-is_text.false in absurd (cc))
    (λ e. c.is_text.ensures.1 (first_of c.args.columns.now (fields_of c.args.head.now) c.field.result.now c.field.ensures e))
