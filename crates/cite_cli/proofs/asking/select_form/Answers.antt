use Rattle.std.proofs.Common.{◌≡◌, ◌∙◌, sym, ap, true, Some, None, Option, subst, List, ℕ}
use Rattle.cite_schema.specs.declared.query.Query.{Query}
use Rattle.cite_schema.specs.declared.schema.Column.{Column}
use Rattle.cite_schema.specs.Answers.{Alike}
use Rattle.cite_schema.specs.Headings.{is_heading}
use Rattle.cite_schema.specs.Queries.{asked}
use Rattle.subset_query.specs.Checks.{kind_named, query_fault}
use Rattle.subset_query.specs.Forms.{formed}
use Rattle.subset_query.specs.declared.checks.QueryFault.{QueryFault}
use Rattle.cite_cli.specs.declared.bounds.Bounds.{Bounds}
use Rattle.cite_cli.specs.Select.{select_query}
use Rattle.cite_cli.proofs.Questions.{question_fault, asked_fault, column_good, column_unknown, column_of_texts, no_other}
use Rattle.cite_cli.proofs.asking.select_form.Goals as goal

-- the query is that of the words
question : (columns slice : List Column) (column : List ℕ) (bounds : Bounds) (query : Query) → slice ≡ columns → query ≡ select_query slice column bounds → query ≡ select_query columns column bounds
question columns slice column bounds query same is = is ∙ ap (λ cs. select_query cs column bounds) same

-- its fault is that of the column
fault : (columns slice : List Column) (column : List ℕ) (bounds : Bounds) (query : Query) (told : Option QueryFault) → is_heading columns ≡ true → slice ≡ columns → query ≡ select_query slice column bounds → query_fault columns query ≡ told
    → asked_fault (kind_named columns column) ≡ told
fault columns slice column bounds query told heading same is e =
    sym (question_fault columns column bounds heading) ∙ ap (query_fault columns) (sym (question columns slice column bounds query same is)) ∙ e

pub returns-in-Ok-clause-good : goal.returns-in-Ok-clause-good
returns-in-Ok-clause-good c =
    column_good (kind_named c.args.schema.now.columns c.args.column.now)
    (fault c.args.schema.now.columns c.as_slice.result.now c.args.column.now c.args.bounds.now c.in_ok-query.query None c.columns.ensures.heading (c.as_slice.ensures ∙ c.columns.ensures.value) c.in_ok-query.ensures c.in-Ok.ensures.ok)

pub returns-in-Ok-clause-alike : goal.returns-in-Ok-clause-alike
returns-in-Ok-clause-alike c =
    subst (λ (q : Query). Alike c.args.schema.now.columns (asked c.args.schema.now.columns q) (formed c.in_ok-normal-in-Ok.field-0))
    (question c.args.schema.now.columns c.as_slice.result.now c.args.column.now c.args.bounds.now c.in_ok-query.query (c.as_slice.ensures ∙ c.columns.ensures.value) c.in_ok-query.ensures) c.in_ok-normal-in-Ok.ensures.alike

pub returns-in-UnknownColumn-clause-why : goal.returns-in-UnknownColumn-clause-why
returns-in-UnknownColumn-clause-why c =
    column_unknown (kind_named c.args.schema.now.columns c.args.column.now) c.in-UnknownColumn.part c.in-UnknownColumn.place
    (fault c.args.schema.now.columns c.as_slice.result.now c.args.column.now c.args.bounds.now c.in_ok-query.query (Some c.in-Err.fault) c.columns.ensures.heading (c.as_slice.ensures ∙ c.columns.ensures.value) c.in_ok-query.ensures c.in-Err.ensures.fault
    ∙ ap Some c.in-UnknownColumn.is)

pub returns-in-WrongKind-clause-why : goal.returns-in-WrongKind-clause-why
returns-in-WrongKind-clause-why c =
    column_of_texts (kind_named c.args.schema.now.columns c.args.column.now) c.in-WrongKind.place
    (fault c.args.schema.now.columns c.as_slice.result.now c.args.column.now c.args.bounds.now c.in_ok-query.query (Some c.in-Err.fault) c.columns.ensures.heading (c.as_slice.ensures ∙ c.columns.ensures.value) c.in_ok-query.ensures c.in-Err.ensures.fault
    ∙ ap Some c.in-WrongKind.is)

pub unreachable-requires : goal.unreachable-requires
unreachable-requires c =
    no_other (kind_named c.args.schema.now.columns c.args.column.now) c.in-Err.fault
    (fault c.args.schema.now.columns c.as_slice.result.now c.args.column.now c.args.bounds.now c.in_ok-query.query (Some c.in-Err.fault) c.columns.ensures.heading (c.as_slice.ensures ∙ c.columns.ensures.value) c.in_ok-query.ensures c.in-Err.ensures.fault)
    c.in_default.not-UnknownColumn c.in_default.not-WrongKind
