-- The writer that a result goes through, as the clauses of the functions that write to it see it.
use Rattle.std.specs.Prelude.{◌≡◌, ℕ, List, ◌++◌, false}
use Rattle.std.specs.declared.vec.Vec.{Vec}
use Rattle.std.specs.declared.alloc.Global.{Global}
use Rattle.csv.specs.Writing.{writer_setup, fields_written, has_written, writer_under, writer_pending, default_writer, with_style}
use Rattle.csv.specs.declared.writer.WriterBuilder.{WriterBuilder}
use Rattle.csv.specs.declared.writer.Writer.{Writer}
use Rattle.csv.specs.declared.writer.QuoteStyle.TheVariants as style

-- csv's defaults, but that every field is quoted
abbrev pub all_quoted : WriterBuilder
all_quoted = with_style default_writer style.Always

-- all that was written: what the vector holds, and then the buffer
abbrev pub written : Writer (Vec ℕ Global) → List ℕ
written w = (writer_under w).items ++ writer_pending w

-- every field is quoted, and no field of a line stands without the line's end
pub record IsBetweenLines (w : Writer (Vec ℕ Global)) : Type 0 where
  pub setup : writer_setup w ≡ all_quoted
  pub fields : fields_written w ≡ 0
  pub shows : has_written w ≡ false
