-- A plan has one answer on a table.
use Rattle.std.proofs.Common.{◌≡◌, IsTrue, List, refl, sym, ap, ◌∙◌, ℕ, Bool, filter}
use Rattle.std.proofs.lemmas.List.Sorted.{IsPermutation-refl}
use Rattle.cite_schema.specs.declared.value.Value.{Value}
use Rattle.cite_schema.specs.declared.item.Dir.{Dir}
use Rattle.cite_schema.specs.Tables.{key_cmp, is_keyed}
use Rattle.cite_schema.specs.Layout.{laid_out}
use Rattle.cite_schema.specs.Answers.{Plan, order_cmp, IsAnswer, Gives, AlwaysGives, GivesOnce}
use Rattle.cite_schema.proofs.Rising.{Differ, and_second, rises_filter, differ_from_rises, one_rearrangement}
use Rattle.cite_schema.proofs.Arranging.{arranged, arranged_moves, arranged_rises}
use Rattle.cite_schema.proofs.Orders.{key_total, order_total, order_tied}

-- the rows that a test keeps of a table rise by their keys
pub kept_keyed : (keeps : List Value → Bool) (table : List (List Value)) → IsTrue (is_keyed table) → IsTrue (is_keyed (filter keeps table))
kept_keyed keeps table h = rises_filter key_cmp key_total keeps table h

-- rows with different keys differ in each order
pub differ_in_order : (order : List Dir) (rows : List (List Value)) → Differ key_cmp key_total rows → Differ (order_cmp order) (order_total order) rows
differ_in_order order rows h = λ i j d lt le e. h i j d lt le (order_tied order _ _ e)

-- rows that rise by their keys have an answer in each order
pub arranged_is_answer : (p : Plan) (table : List (List Value)) → IsTrue (is_keyed table) → IsAnswer p table (arranged (order_cmp p.order) (order_total p.order) (filter p.keeps table))
arranged_is_answer p table h =
    let kept = filter p.keeps table in
    let differ = differ_from_rises key_cmp key_total kept kept (IsPermutation-refl kept) (kept_keyed p.keeps table h) in
    record {
      same = arranged_moves (order_cmp p.order) (order_total p.order) kept;
      in_order = arranged_rises (order_cmp p.order) (order_total p.order) kept (differ_in_order p.order kept differ);
    }

-- two answers of a plan on one list of rows are one
pub one_answer : (p : Plan) (table rows others : List (List Value)) → IsAnswer p table rows → IsAnswer p table others → rows ≡ others
one_answer p table rows others a b =
    one_rearrangement (order_cmp p.order) (order_total p.order) (filter p.keeps table) rows others a.same b.same a.in_order b.in_order

pub always_gives : AlwaysGives
always_gives columns p table h =
    let rows = arranged (order_cmp p.order) (order_total p.order) (filter p.keeps table) in
    (laid_out p.items rows, record { rows = rows; answer = arranged_is_answer p table (and_second _ _ h); bytes = refl })

-- a plan gives at most one text on a list of rows
pub one_text : (p : Plan) (table : List (List Value)) (b c : List ℕ) → Gives p table b → Gives p table c → b ≡ c
one_text p table b c g k = g.bytes ∙ ap (laid_out p.items) (one_answer p table g.rows k.rows g.answer k.answer) ∙ sym k.bytes

pub gives_once : GivesOnce
gives_once columns p table h b c g k = one_text p table b c g k
