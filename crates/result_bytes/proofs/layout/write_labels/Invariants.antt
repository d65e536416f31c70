use Rattle.std.proofs.Common.{◌≡◌, ◌<◌, ◌++◌, true, take}
use Rattle.csv.specs.Writing.{writer_setup, fields_written, has_written}
use Rattle.cite_schema.specs.Layout.{labels}
use Rattle.result_bytes.specs.Writer.{all_quoted, written}
use Rattle.result_bytes.proofs.Fields.{joined}
use Rattle.result_bytes.proofs.layout.write_labels.Given as goal

abbrev pub invariant-loop-item : goal.invariant-loop-item
invariant-loop-item l = record {
  setup : writer_setup l.out ≡ all_quoted;
  count : fields_written l.out ≡ l.item-index;
  shows : 0 < l.item-index → has_written l.out ≡ true;
  so_far : written l.out ≡ written l.initial.out ++ joined (labels (take l.item-index l.items));
}
