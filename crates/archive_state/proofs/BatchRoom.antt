-- Where what readers see is what an archive says, there is room for the lines of a body.
use Rattle.std.proofs.Common.{◌≡◌, ℕ, ◌+◌, ◌-◌, ◌*◌, ◌^◌, ◌<◌, ◌≤◌, List, ◌++◌, length, sym, ap, ◌∙◌, subst, arith}
use Rattle.std.proofs.Math.Nat.{mul-le-mul_left, mul-le-mul_right}
use Rattle.std.specs.Prelude.{Ok}
use Rattle.std.specs.Arc.{arc_value}
use Rattle.cite_schema.specs.Headings.{Heading}
use Rattle.cite_schema.specs.Lines.{brought}
use Rattle.cite_schema.specs.declared.schema.Column.{Column}
use Rattle.cite_schema.specs.declared.line.Line.{Line}
use Rattle.cite_schema.proofs.WellNamed.{are_well_named}
use Rattle.batches.specs.Bodies.{lines_of, IsUnlessMemory}
use Rattle.versioned_rows.specs.ChangeLaws.{NameOwnKeys, HaveKeys}
use Rattle.versioned_rows.specs.Weights.{rows_weight}
use Rattle.versioned_rows.specs.Histories.{RowHistory, rows_of}
use Rattle.versioned_rows.proofs.Sums.{rows_weight-append}
use Rattle.archive_model.specs.Limits.{KeptRows, Versions, Citations, Weight}
use Rattle.archive_model.proofs.BatchLines.{good_lines}
use Rattle.archive_model.proofs.Counted.{counts_keep_their_limits}
use Rattle.archive_model.proofs.Growing.{entries_counted}
use Rattle.archive_model.proofs.InStep.{agreement_counts}
use Rattle.archive_model.proofs.Sound.{citations_resolve}
use Rattle.archive_state.specs.declared.snapshot.Snapshot.{Snapshot}
use Rattle.archive_state.specs.declared.present.Present.{Present}
use Rattle.archive_state.specs.Standing.{IsSeen, Stands}
use Rattle.archive_state.proofs.BodyLines.{heaviest, AreBounded, few_brought, body_bounded, keys_there}

-- the columns make a schema, and the counts are within their limits
pub record HasRoom (s : Snapshot) : Type 0 where
  pub some : 0 < length s.schema.columns
  pub few : length s.schema.columns ≤ 64
  pub last : s.rows.last ≤ 200000
  pub kept : length s.rows.kept ≤ 1000000
  pub weight : rows_weight (rows_of s.rows) ≤ 1073741824

-- so it is where it is what the archive of a legal history says
pub has_room : (s : Snapshot) → IsSeen s → HasRoom s
has_room s seen =
    let counts = counts_keep_their_limits seen.history seen.archive seen.leads in
    let named = are_well_named seen.archive.last.schema.columns (citations_resolve seen.history seen.archive seen.leads).heading in
    let (kept, weight) = agreement_counts seen.archive s.rows seen.shows.parts.tables in
    let columns = ap (λ (h : Heading). length h.columns) seen.shows.schema_is in
    record {
      some = omega (arith, columns, named.some);
      few = omega (arith, columns, named.few);
      last = omega (arith, seen.shows.parts.tables.last, counts.limits Versions);
      kept = subst (λ n. n ≤ 1000000) kept (counts.limits KeptRows);
      weight = subst (λ n. n ≤ 1073741824) weight (counts.limits Weight);
    }

-- a product is within the product of limits
pub product_within : (n m N M w : ℕ) → n ≤ N → m ≤ M → n * (m * w) ≤ N * (M * w)
product_within n m N M w h k =
    let inner : n * (m * w) ≤ n * (M * w) = mul-le-mul_left n (mul-le-mul_right w k) in
    let outer : n * (M * w) ≤ N * (M * w) = mul-le-mul_right (M * w) h in
    between (n * (m * w)) (n * (M * w)) (N * (M * w)) inner outer
  where
    between : (a b c : ℕ) → a ≤ b → b ≤ c → a ≤ c
    between a b c h k = omega arith

-- and a sum below what the sum of limits is below
sum_within : (a b A B limit : ℕ) → a ≤ A → b ≤ B → A + B < limit → a + b < limit
sum_within a b A B limit h k l = omega arith

-- the rows of the lines have room
pub rows_fit : (s : Snapshot) (lines : List Line) → HasRoom s → AreBounded s.schema.columns lines → length s.rows.kept + length (brought lines) < 2 ^ 64
rows_fit s lines room bounded = omega (arith, room.kept, bounded.few, few_brought lines)

-- two limits make one
most_weight : (n b most : ℕ) → b ≤ n → n ≤ most → b ≤ most
most_weight n b most h k = omega arith

-- and their weight
pub weight_fits : (s : Snapshot) (lines : List Line) → HasRoom s → AreBounded s.schema.columns lines → rows_weight (rows_of s.rows ++ brought lines) < 2 ^ 64
weight_fits s lines room bounded =
    subst (λ n. n < 2 ^ 64) (sym (rows_weight-append (rows_of s.rows) (brought lines)))
    (sum_within (rows_weight (rows_of s.rows)) (rows_weight (brought lines)) 1073741824 (20000 * (64 * heaviest)) (2 ^ 64) room.weight
    (most_weight (length lines * (length s.schema.columns * heaviest)) (rows_weight (brought lines)) (20000 * (64 * heaviest)) bounded.light (product_within (length lines) (length s.schema.columns) 20000 64 heaviest bounded.few room.few)) (omega arith))

-- what is kept of an archive is seen
pub stands_seen : (p : Present) → Stands p → IsSeen (arc_value p.snapshot)
stands_seen p s = record { history = s.history; archive = s.archive; leads = s.stands.leads; shows = s.stands.agrees.shows }

-- one entry more can be counted
pub entries_fit : (p : Present) → Stands p → p.entries + 1 < 2 ^ 64
entries_fit p s =
    let counts = counts_keep_their_limits s.history s.archive s.stands.leads in
    omega (arith, s.stands.agrees.entries_are, entries_counted s.history s.archive s.stands.leads, counts.limits Versions, counts.limits Citations)

-- what the next rows ask for of the lines
pub record IsReady (table : RowHistory) (lines : List Line) : Type 0 where
  pub few : length lines < 2 ^ 32
  pub apart : NameOwnKeys lines
  pub keys : HaveKeys lines
  pub kept : length table.kept + length (brought lines) < 2 ^ 64
  pub weight : rows_weight (rows_of table ++ brought lines) < 2 ^ 64
  pub last : table.last < 2 ^ 32 - 1

-- a body's lines are told, since memory was not wanting
pub told_lines : (columns : List Column) (body : List ℕ) (lines : List Line) → IsUnlessMemory (Ok lines) (lines_of columns body) → lines_of columns body ≡ Ok lines
told_lines columns body lines h = sym (h (λ e. absurd (cc)))

-- the lines of a body by the schema that readers see
lines_ready : (s : Snapshot) (lines : List Line) (body : List ℕ) → HasRoom s → lines_of s.schema.columns body ≡ Ok lines → IsReady s.rows lines
lines_ready s lines body room e =
    let bounded = body_bounded s.schema.columns body lines e in
    let (fit, apart) = good_lines s.schema.columns body lines e in
    record {
      few = omega (arith, bounded.few);
      apart = apart;
      keys = keys_there s.schema.columns lines room.some fit;
      kept = rows_fit s lines room bounded;
      weight = weight_fits s lines room bounded;
      last = omega (arith, room.last);
    }

-- the rows that readers see can take the lines of a body that is read by their schema
pub rows_ready : (s : Snapshot) (schema : Heading) (table : RowHistory) (lines : List Line) (body : List ℕ) → IsSeen s → schema ≡ s.schema → table ≡ s.rows → IsUnlessMemory (Ok lines) (lines_of schema.columns body) → IsReady table lines
rows_ready s schema table lines body seen same rows told =
    subst (λ (t : RowHistory). IsReady t lines) (sym rows)
    (lines_ready s lines body (has_room s seen) (ap (λ (h : Heading). lines_of h.columns body) (sym same) ∙ told_lines schema.columns body lines told))
