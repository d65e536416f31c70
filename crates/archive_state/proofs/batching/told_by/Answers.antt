use Rattle.std.proofs.Common.{false, sym, ap, ◌∙◌}
use Rattle.std.specs.Prelude.{Ok, Err, if◌then◌else◌}
use Rattle.std.specs.Cmp.Lexicographic.{bytes_decides}
use Rattle.archive_model.specs.declared.answers.Refused.TheVariants.{NumberUsed}
use Rattle.archive_state.specs.declared.plan.Planned.TheVariants.{Repeat}
use Rattle.archive_state.proofs.UsedNumbers.{word_itself, word_other}
use Rattle.archive_state.proofs.batching.told_by.Goals as goal

pub returns-then-eq : goal.returns-then-eq
returns-then-eq c =
    let same = (bytes_decides c.args.used.now.digest c.args.digest.now).0 (sym c.eq.ensures ∙ c.if-eq.true) in
    ap (λ b. if b then Ok (Repeat (record { version = c.args.used.now.version; new = false })) else Err (NumberUsed c.args.used.now.version)) (sym (word_itself c.args.used.now.digest c.args.digest.now same))

pub returns-else-eq : goal.returns-else-eq
returns-else-eq c =
    ap (λ b. if b then Ok (Repeat (record { version = c.args.used.now.version; new = false })) else Err (NumberUsed c.args.used.now.version))
    (sym (word_other c.args.used.now.digest c.args.digest.now (λ same. let t = sym ((bytes_decides c.args.used.now.digest c.args.digest.now).1 same) ∙ sym c.eq.ensures ∙ c.if-eq.false in absurd (cc))))
