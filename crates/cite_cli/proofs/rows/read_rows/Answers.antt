use Rattle.std.proofs.Common.{◌∙◌, sym, ap, subst, arith, List, [], ℕ, Ok, ◌++◌, append-nil}
use Rattle.csv.specs.Records.{fields_of}
use Rattle.subset_query.specs.Forms.{formed}
use Rattle.cite_schema.specs.declared.value.Value.{Value}
use Rattle.csv_records.specs.Records.{left_of}
use Rattle.cite_cli.specs.declared.refusal.Fault.{Fault}
use Rattle.cite_cli.specs.Parts.{Tells}
use Rattle.cite_cli.specs.Refusals.{lines_fault}
use Rattle.cite_cli.proofs.Collecting.{ReadSoFar, nothing_read, next_line, fault_told, again_tells, read_more, all_read, row_kept, row_left}
use Rattle.cite_cli.proofs.LineFaults.{row_cells_count}
use Rattle.cite_cli.proofs.rows.read_rows.Goals as goal

pub loop-fields-init : goal.loop-fields-init
loop-fields-init c = record {
  reading = c.requires.reading;
  so_far = subst (λ (picked : List (List Value)). ReadSoFar c.args.columns.now (formed c.args.form.now).keeps (left_of c.args.reader.now) (left_of c.args.reader.now) c.new-keys.result picked 0) (sym c.new-picked.ensures)
      (nothing_read c.args.columns.now (formed c.args.form.now).keeps (left_of c.args.reader.now) c.new-keys.result (c.new-keys.ensures (λ t. t.items)));
}

pub overflow_add-line : goal.overflow_add-line
overflow_add-line c =
    let line = rw c.if-branch.true at c.in_ok-read_next.ensures.found in
    let so = subst (λ (left : List (List (List ℕ))). ReadSoFar c.args.columns.now (formed c.args.form.now).keeps (left_of c.args.reader.now) left c.loop-fields.keys c.loop-fields.picked c.loop-fields.line) line c.loop-fields.invariant.so_far in
    let most = next_line c.args.columns.now (formed c.args.form.now).keeps (left_of c.args.reader.now) (left_of c.read_next.new.reader) c.loop-fields.keys c.loop-fields.picked c.loop-fields.line (fields_of c.read_next.new.line) so in
    omega (arith, most, c.requires.few)

pub returns-in-Err-clause-why : goal.returns-in-Err-clause-why
returns-in-Err-clause-why c =
    let line = rw c.if-branch.true at c.in_ok-read_next.ensures.found in
    let so = subst (λ (left : List (List (List ℕ))). ReadSoFar c.args.columns.now (formed c.args.form.now).keeps (left_of c.args.reader.now) left c.loop-fields.keys c.loop-fields.picked c.loop-fields.line) line c.loop-fields.invariant.so_far in
    subst (λ (f : Fault). Tells (lines_fault c.args.columns.now [] (left_of c.args.reader.now)) f) (sym c.unwrap_or.ensures)
    (fault_told c.args.columns.now (formed c.args.form.now).keeps (left_of c.args.reader.now) (left_of c.read_next.new.reader) c.loop-fields.keys c.loop-fields.picked c.loop-fields.line (fields_of c.read_next.new.line) so c.key_twice.result c.in-Err.fault (c.key_twice.ensures so.named so.held) c.in-Err.ensures.why)

pub key_of-requires : goal.key_of-requires
key_of-requires c =
    let n = row_cells_count c.args.columns.now (fields_of c.read_next.new.line) c.in-Ok.row c.in-Ok.ensures.ok in
    omega (arith, n, c.requires.some)

pub loop-fields-preserved-in-Continue-branch-3 : goal.loop-fields-preserved-in-Continue-branch-3
loop-fields-preserved-in-Continue-branch-3 c =
    let line = rw c.if-branch.true at c.in_ok-read_next.ensures.found in
    let so = subst (λ (left : List (List (List ℕ))). ReadSoFar c.args.columns.now (formed c.args.form.now).keeps (left_of c.args.reader.now) left c.loop-fields.keys c.loop-fields.picked c.loop-fields.line) line c.loop-fields.invariant.so_far in
    record {
      reading = c.in_ok-read_next.ensures.reading (ap Ok c.if-branch.true);
      so_far = read_more c.args.columns.now (formed c.args.form.now).keeps (left_of c.args.reader.now) (left_of c.read_next.new.reader) c.loop-fields.keys c.loop-fields.picked c.loop-fields.line (fields_of c.read_next.new.line) so c.push_copy.new.self c.push.new.self c.in-Ok.row c.key_of.result.now c.in-Ok.ensures.ok c.key_of.ensures c.in_ok-push_copy.ensures.ok
          (c.in_ok-push.ensures.ok ∙ ap (λ l. c.loop-fields.picked ++ l) (row_kept (formed c.args.form.now).keeps c.in-Ok.row (sym c.if-picks.ensures)));
    }

pub loop-fields-preserved-else-picks : goal.loop-fields-preserved-else-picks
loop-fields-preserved-else-picks c =
    let line = rw c.if-branch.true at c.in_ok-read_next.ensures.found in
    let so = subst (λ (left : List (List (List ℕ))). ReadSoFar c.args.columns.now (formed c.args.form.now).keeps (left_of c.args.reader.now) left c.loop-fields.keys c.loop-fields.picked c.loop-fields.line) line c.loop-fields.invariant.so_far in
    record {
      reading = c.in_ok-read_next.ensures.reading (ap Ok c.if-branch.true);
      so_far = read_more c.args.columns.now (formed c.args.form.now).keeps (left_of c.args.reader.now) (left_of c.read_next.new.reader) c.loop-fields.keys c.loop-fields.picked c.loop-fields.line (fields_of c.read_next.new.line) so c.push_copy.new.self c.loop-fields.picked c.in-Ok.row c.key_of.result.now c.in-Ok.ensures.ok c.key_of.ensures c.in_ok-push_copy.ensures.ok
          (sym (append-nil c.loop-fields.picked) ∙ ap (λ l. c.loop-fields.picked ++ l) (row_left (formed c.args.form.now).keeps c.in-Ok.row (sym c.if-picks.ensures)));
    }

pub loop-fields-preserved : goal.loop-fields-preserved
loop-fields-preserved c =
    let line = rw c.if-branch.true at c.in_ok-read_next.ensures.found in
    let so = subst (λ (left : List (List (List ℕ))). ReadSoFar c.args.columns.now (formed c.args.form.now).keeps (left_of c.args.reader.now) left c.loop-fields.keys c.loop-fields.picked c.loop-fields.line) line c.loop-fields.invariant.so_far in
    record {
      reading = c.in_ok-read_next.ensures.reading (ap Ok c.if-branch.true);
      so_far = read_more c.args.columns.now (formed c.args.form.now).keeps (left_of c.args.reader.now) (left_of c.read_next.new.reader) c.loop-fields.keys c.loop-fields.picked c.loop-fields.line (fields_of c.read_next.new.line) so c.push_copy.new.self c.loop-fields.picked c.in-Ok.row c.key_of.result.now c.in-Ok.ensures.ok c.key_of.ensures c.in_ok-push_copy.ensures.ok
          (sym (append-nil c.loop-fields.picked) ∙ ap (λ l. c.loop-fields.picked ++ l) (row_left (formed c.args.form.now).keeps c.in-Ok.row (sym c.if-picks.ensures)));
    }

pub returns-in-Some-clause-why : goal.returns-in-Some-clause-why
returns-in-Some-clause-why c =
    let so = c.loop-fields.invariant.so_far in
    again_tells c.args.columns.now (formed c.args.form.now).keeps (left_of c.args.reader.now) (left_of c.loop-fields.reader) c.loop-fields.keys c.loop-fields.picked c.loop-fields.line so c.in-Some.fault (c.in-Some.ensures so.named so.held)

pub returns-in-None-clause-ok : goal.returns-in-None-clause-ok
returns-in-None-clause-ok c =
    let none = rw c.if-branch.false at c.in_ok-read_next.ensures.found in
    let so = c.loop-fields.invariant.so_far in
    all_read c.args.columns.now (formed c.args.form.now).keeps (left_of c.args.reader.now) (left_of c.loop-fields.reader) c.loop-fields.keys c.loop-fields.picked c.loop-fields.line so none (c.in-None.ensures so.named so.held)
