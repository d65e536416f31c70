use Rattle.std.proofs.Common.{◌≡◌, ⊎_elim, ℕ, List, sym, ap, subst}
use Rattle.std.specs.Prelude.{Result}
use Rattle.cite_disk.proofs.Moments.{weaken}
use Rattle.entry_codec.specs.Payloads.{payload}
use Rattle.archive_model.specs.declared.answers.Moved.{Moved}
use Rattle.archive_model.specs.declared.answers.Refused.{Refused}
use Rattle.archive_model.specs.Migrating.{MigrateStep}
use Rattle.archive_state.specs.declared.plan.Planned.{Planned}
use Rattle.archive_state.specs.declared.present.Present.{Present}
use Rattle.archive_state.specs.Planning.{Plans}
use Rattle.archive_state.specs.Standing.{StandsFor}
use Rattle.archive_core.specs.Keeping.{Held, IsLeft, payloads_of}
use Rattle.archive_core.specs.Answering.{MadeBy}
use Rattle.archive_core.specs.Writing.{MayLeaveBy}
use Rattle.archive_core.proofs.NoDisk.{migrate_never}
use Rattle.archive_core.proofs.Planned.{can_be_written}
use Rattle.archive_core.proofs.Written.{answered, kept_after, left_by_plan}
use Rattle.archive_core.proofs.desk.Desk.migrate.Goals as goal

pub write-requires-clause-written : goal.write-requires-clause-written
write-requires-clause-written g c =
    let st = c.self.invariant.stands in
    can_be_written (MigrateStep st.archive c.args.schema c.args.steps.now c.args.now) st.history st.archive c.args.self.now c.plan_migrate-planned.result
    (subst (λ (p : Present). StandsFor p st.history st.archive) (ap (λ (h : Held). h.present) c.self.view_is) st.stands) (c.plan_migrate-planned.ensures st.history st.archive st.stands)

pub returns-clause-answer : goal.returns-clause-answer
returns-clause-answer g c = λ history a stands.
    let d = g.D.Disk in
    let inside = subst (λ (p : Present). StandsFor p history a) (sym (ap (λ (h : Held). h.present) c.self.view_is)) stands in
    answered (MigrateStep a c.args.schema c.args.steps.now c.args.now) history a d.honest (c.write.new.disk ≡ c.args.disk.now) (d.images c.args.disk.now) (d.images c.write.new.disk) c.args.self.now c.write.new.self
    (λ same b i. subst (λ x. d.images x b) same i) c.plan_migrate-planned.result c.write.result (c.plan_migrate-planned.ensures history a inside) c.write.ensures.written

pub returns-clause-moments : goal.returns-clause-moments
returns-clause-moments g c = λ honest history a e stands keeps.
    let d = g.D.Disk in
    let old = c.args.self.now in
    let inside = subst (λ (p : Present). StandsFor p history a) (sym (ap (λ (h : Held). h.present) c.self.view_is)) stands in
    weaken d.moment d.left_since c.args.disk.now c.write.new.disk (MayLeaveBy c.plan_migrate-planned.result old.journal (payloads_of history) (payload e)) (IsLeft (MadeBy (MigrateStep a c.args.schema c.args.steps.now c.args.now)) history e)
    (c.write.ensures.moments honest (payloads_of history) (payload e) keeps.stands)
    (λ b may. left_by_plan (MigrateStep a c.args.schema c.args.steps.now c.args.now) history a d.honest (c.write.new.disk ≡ c.args.disk.now) (d.images c.args.disk.now) (d.images c.write.new.disk) old c.write.new.self
    c.plan_migrate-planned.result e (c.plan_migrate-planned.ensures history a inside) keeps b may)

pub returns-clause-kept : goal.returns-clause-kept
returns-clause-kept g c = λ honest.
    let d = g.D.Disk in
    let k = c.requires.kept honest in
    let inside = subst (λ (p : Present). StandsFor p k.history k.archive) (sym (ap (λ (h : Held). h.present) c.self.view_is)) k.stands in
    let within : c.write.new.disk ≡ c.args.disk.now → (b : List ℕ) → d.images c.write.new.disk b → d.images c.args.disk.now b = λ same b i. subst (λ x. d.images x b) same i in
    kept_after (MigrateStep k.archive c.args.schema c.args.steps.now c.args.now) k.history k.archive d.honest (c.write.new.disk ≡ c.args.disk.now) (d.images c.args.disk.now) (d.images c.write.new.disk) c.args.self.now c.write.new.self
    within c.write.result k.under_way honest k.stands k.keeps
    (answered (MigrateStep k.archive c.args.schema c.args.steps.now c.args.now) k.history k.archive d.honest (c.write.new.disk ≡ c.args.disk.now) (d.images c.args.disk.now) (d.images c.write.new.disk) c.args.self.now c.write.new.self
    within c.plan_migrate-planned.result c.write.result (c.plan_migrate-planned.ensures k.history k.archive inside) c.write.ensures.written)

pub returns-clause-cause : goal.returns-clause-cause
returns-clause-cause g c = λ failed.
    let st = c.self.invariant.stands in
    ⊎_elim
    (λ planned. absurd (migrate_never st.archive c.args.schema c.args.steps.now c.args.now
    (subst (λ (r : Result (Planned Moved) Refused). Plans (MigrateStep st.archive c.args.schema c.args.steps.now c.args.now) st.history st.archive r) planned (c.plan_migrate-planned.ensures st.history st.archive st.stands))))
    (λ rose. rose)
    (c.write.ensures.cause failed)
