-- Columns that make a schema have no fault.
use Rattle.std.proofs.Common.{◌≡◌, true, Some, List, ap, sym, ◌∙◌}
use Rattle.std.specs.Prelude.{is_none}
use Rattle.cite_schema.specs.Headings.{heading_fault, is_heading}
use Rattle.cite_schema.specs.declared.schema.Column.{Column}
use Rattle.cite_schema.specs.declared.schema.SchemaFault.{SchemaFault}

pub no_fault : (columns : List Column) (fault : SchemaFault) → is_heading columns ≡ true → heading_fault columns ≡ Some fault → ⊥
no_fault columns fault h e = let no : is_none (Some fault) ≡ true = sym (ap is_none e) ∙ h in cc
