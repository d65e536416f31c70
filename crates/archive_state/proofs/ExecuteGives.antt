-- What the executing of a form needs: rows with keys of their own, and an item.
use Rattle.std.proofs.Common.{◌≢◌, ◌<◌, List, [], ◌∷◌, length, IsTrue, refl, arith}
use Rattle.std.proofs.lemmas.List.Sorted.{IsPermutation-refl}
use Rattle.cite_schema.specs.declared.value.Value.{Value}
use Rattle.cite_schema.specs.declared.schema.Column.{Column}
use Rattle.cite_schema.specs.Tables.{key_cmp, is_keyed}
use Rattle.cite_schema.proofs.Orders.{key_total}
use Rattle.cite_schema.proofs.Rising.{differ_from_rises}
use Rattle.subset_query.specs.Forms.{formed, IsSettled}
use Rattle.subset_query.specs.Keys.{HaveOwnKeys}
use Rattle.subset_query.specs.declared.form.Normal.{Normal}
use Rattle.subset_query.proofs.Central.{some_items}

-- rows whose keys rise have keys of their own
pub keyed_own : (rows : List (List Value)) → IsTrue (is_keyed rows) → HaveOwnKeys rows
keyed_own rows h = differ_from_rises key_cmp key_total rows rows (IsPermutation-refl rows) h

some_length : {X : Type 0} (xs : List X) → xs ≢ [] → 0 < length xs
some_length [] h = absurd (h refl)
some_length (x ∷ xs) h = omega arith

-- a settled form shows something
pub shows_some : (columns : List Column) (form : Normal) → IsSettled columns form → 0 < length (formed form).items
shows_some columns form settled = some_length (formed form).items (some_items form columns settled)
