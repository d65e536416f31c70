use Rattle.std.proofs.Common.{◌≡◌, refl, inl, inr, subst, map, List, String, Global, false, true}
use Rattle.std.specs.Prelude.{string_bytes}
use Rattle.cite_cli.specs.Run.{HaveNoForm}
use Rattle.cite_cli.specs.Run.IsRun.{BySelect, ByInit, ByVerify, BySession}
use Rattle.cite_cli.specs.Parts.{told_by, columns_by}
use Rattle.cite_cli.proofs.command.run.Goals as goal

pub returns-in-Some : goal.returns-in-Some
returns-in-Some g c =
    let asked = c.in-Some.asked in
    inr (c.select.result, c.status.ensures, BySelect asked.column.now asked.bounds (rw c.as_slice-words.ensures.value at c.in-Some.ensures) (record { timeless = refl; untouched = refl }) (c.select.ensures (g.C.Clock.given c.args.clock.now)))

pub returns-in-Some-init_words : goal.returns-in-Some-init_words
returns-in-Some-init_words g c =
    let told = c.in-Some-init_words.told in
    let source = c.args.source.now in
    inr (c.init.result, c.status-in-Some-init_words.ensures, ByInit (told_by told) (columns_by told) (rw c.as_slice-words.ensures.value at c.in-Some-init_words.ensures) (c.init.ensures (g.S.Source.left source) (g.S.Source.faults_of source)))

pub returns-then-is_verify : goal.returns-then-is_verify
returns-then-is_verify g c =
    let source = c.args.source.now in
    inr (c.verify.result, c.status-then-is_verify.ensures, ByVerify (rw c.as_slice-words.ensures.value at (c.if-is_verify.ensures.0 refl)) (c.verify.ensures (g.S.Source.left source) (g.C.Clock.given c.args.clock.now) (g.S.Source.faults_of source)))

pub returns-then-is_session : goal.returns-then-is_session
returns-then-is_session g c =
    inr (c.session.result, c.status-then-is_session.ensures, BySession (rw c.as_slice-words.ensures.value at (c.if-is_session.ensures.0 refl)) c.session.ensures)

pub returns : goal.returns
returns g c =
    let none : HaveNoForm (map string_bytes c.as_slice-words.result.now) = record {
      no_select = c.in_default.ensures;
      no_init = c.in_default-init_words.ensures;
      no_verify = λ is. let e : false ≡ true = c.if-is_verify.ensures.1 is in absurd (cc);
      no_session = λ is. let e : false ≡ true = c.if-is_session.ensures.1 is in absurd (cc);
    } in
    inl (
      c.status-2.ensures,
      record {
        none = subst (λ (words : List (String Global)). HaveNoForm (map string_bytes words)) c.as_slice-words.ensures.value none;
        untaken = record { left = refl; reads = refl };
        silent = refl;
        apart = record { timeless = refl; untouched = refl };
      },
    )
