use Rattle.std.proofs.Common.{◌≡◌, ⊎_elim, ℕ, List, sym, ap, subst}
use Rattle.std.specs.Prelude.{Result}
use Rattle.cite_disk.proofs.Moments.{weaken}
use Rattle.entry_codec.specs.Payloads.{payload}
use Rattle.archive_model.specs.declared.answers.Cited.{Cited}
use Rattle.archive_model.specs.declared.answers.Refused.{Refused}
use Rattle.archive_model.specs.Citing.{CiteStep}
use Rattle.archive_state.specs.declared.plan.Planned.{Planned}
use Rattle.archive_state.specs.declared.present.Present.{Present}
use Rattle.archive_state.specs.Planning.{Plans}
use Rattle.archive_state.specs.Standing.{StandsFor}
use Rattle.archive_core.specs.Keeping.{Held, Keeps, IsLeft, payloads_of}
use Rattle.archive_core.specs.Answering.{MadeBy}
use Rattle.archive_core.specs.Writing.{MayLeaveBy}
use Rattle.archive_core.proofs.CitedThere.{cited_there}
use Rattle.archive_core.proofs.NoDisk.{cite_never}
use Rattle.archive_core.proofs.Planned.{can_be_written}
use Rattle.archive_core.proofs.Written.{answered, kept_after, left_by_plan}
use Rattle.archive_core.proofs.desk.Desk.cite.Goals as goal

pub write-requires-clause-written : goal.write-requires-clause-written
write-requires-clause-written g c =
    let st = c.self.invariant.stands in
    can_be_written (CiteStep st.archive c.args.ask.now c.args.now) st.history st.archive c.args.self.now c.plan_cite-planned.result
    (subst (λ (p : Present). StandsFor p st.history st.archive) (ap (λ (h : Held). h.present) c.self.view_is) st.stands) (c.plan_cite-planned.ensures st.history st.archive st.stands)

pub returns-clause-answer : goal.returns-clause-answer
returns-clause-answer g c = λ history a stands.
    let d = g.D.Disk in
    let inside = subst (λ (p : Present). StandsFor p history a) (sym (ap (λ (h : Held). h.present) c.self.view_is)) stands in
    answered (CiteStep a c.args.ask.now c.args.now) history a d.honest (c.write.new.disk ≡ c.args.disk.now) (d.images c.args.disk.now) (d.images c.write.new.disk) c.args.self.now c.write.new.self
    (λ same b i. subst (λ x. d.images x b) same i) c.plan_cite-planned.result c.write.result (c.plan_cite-planned.ensures history a inside) c.write.ensures.written

pub returns-clause-moments : goal.returns-clause-moments
returns-clause-moments g c = λ honest history a e stands keeps.
    let d = g.D.Disk in
    let old = c.args.self.now in
    let inside = subst (λ (p : Present). StandsFor p history a) (sym (ap (λ (h : Held). h.present) c.self.view_is)) stands in
    weaken d.moment d.left_since c.args.disk.now c.write.new.disk (MayLeaveBy c.plan_cite-planned.result old.journal (payloads_of history) (payload e)) (IsLeft (MadeBy (CiteStep a c.args.ask.now c.args.now)) history e)
    (c.write.ensures.moments honest (payloads_of history) (payload e) keeps.stands)
    (λ b may. left_by_plan (CiteStep a c.args.ask.now c.args.now) history a d.honest (c.write.new.disk ≡ c.args.disk.now) (d.images c.args.disk.now) (d.images c.write.new.disk) old c.write.new.self
    c.plan_cite-planned.result e (c.plan_cite-planned.ensures history a inside) keeps b may)

pub returns-clause-kept : goal.returns-clause-kept
returns-clause-kept g c = λ honest.
    let d = g.D.Disk in
    let k = c.requires.kept honest in
    let inside = subst (λ (p : Present). StandsFor p k.history k.archive) (sym (ap (λ (h : Held). h.present) c.self.view_is)) k.stands in
    let within : c.write.new.disk ≡ c.args.disk.now → (b : List ℕ) → d.images c.write.new.disk b → d.images c.args.disk.now b = λ same b i. subst (λ x. d.images x b) same i in
    kept_after (CiteStep k.archive c.args.ask.now c.args.now) k.history k.archive d.honest (c.write.new.disk ≡ c.args.disk.now) (d.images c.args.disk.now) (d.images c.write.new.disk) c.args.self.now c.write.new.self
    within c.write.result k.under_way honest k.stands k.keeps
    (answered (CiteStep k.archive c.args.ask.now c.args.now) k.history k.archive d.honest (c.write.new.disk ≡ c.args.disk.now) (d.images c.args.disk.now) (d.images c.write.new.disk) c.args.self.now c.write.new.self
    within c.plan_cite-planned.result c.write.result (c.plan_cite-planned.ensures k.history k.archive inside) c.write.ensures.written)

pub returns-clause-cause : goal.returns-clause-cause
returns-clause-cause g c = λ failed.
    let st = c.self.invariant.stands in
    ⊎_elim
    (λ planned. absurd (cite_never st.archive c.args.ask.now c.args.now
    (subst (λ (r : Result (Planned Cited) Refused). Plans (CiteStep st.archive c.args.ask.now c.args.now) st.history st.archive r) planned (c.plan_cite-planned.ensures st.history st.archive st.stands))))
    (λ rose. rose)
    (c.write.ensures.cause failed)

pub returns-clause-there : goal.returns-clause-there
returns-clause-there g c =
    let d = g.D.Disk in
    let st = c.self.invariant.stands in
    let outside = subst (λ (p : Present). StandsFor p st.history st.archive) (ap (λ (h : Held). h.present) c.self.view_is) st.stands in
    cited_there st.archive c.args.ask.now c.args.now st.history (λ e. d.honest × Keeps (d.images c.args.disk.now) c.args.self.now.journal st.history e) (λ h e. Keeps (d.images c.write.new.disk) c.write.new.self.journal h e) (c.write.new.disk ≡ c.args.disk.now) c.args.self.now c.write.new.self c.write.result outside
    (answered (CiteStep st.archive c.args.ask.now c.args.now) st.history st.archive d.honest (c.write.new.disk ≡ c.args.disk.now) (d.images c.args.disk.now) (d.images c.write.new.disk) c.args.self.now c.write.new.self
    (λ same b i. subst (λ x. d.images x b) same i) c.plan_cite-planned.result c.write.result (c.plan_cite-planned.ensures st.history st.archive st.stands) c.write.ensures.written)
