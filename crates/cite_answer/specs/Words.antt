-- How a rule that a request breaks is told: the name of the innermost rule, and its numbers, each after a space.
use Rattle.std.specs.Prelude.{ℕ, List, ◌++◌, codes, decimal}
use Rattle.std.specs.Fmt.{signed_decimal}
use Rattle.hex.specs.Hex.{encode_lower}
use Rattle.cite_schema.specs.declared.value.Value.{Value}
use Rattle.cite_schema.specs.declared.value.Value.TheVariants.{Int, Text}
use Rattle.batches.specs.declared.fault.BatchFault.{BatchFault}
use Rattle.batches.specs.declared.fault.BatchFault.TheVariants as bodies
use Rattle.versioned_rows.specs.declared.fault.ApplyFault.{ApplyFault}
use Rattle.versioned_rows.specs.declared.fault.ApplyFault.TheVariants as lines
use Rattle.subset_query.specs.declared.checks.QueryFault.{QueryFault}
use Rattle.subset_query.specs.declared.checks.QueryFault.TheVariants as queries
use Rattle.migration.specs.declared.fault.StepFault.{StepFault}
use Rattle.migration.specs.declared.fault.StepFault.TheVariants as steps
use Rattle.query_json.specs.declared.fault.JsonFault.{JsonFault}
use Rattle.query_json.specs.declared.fault.JsonFault.TheVariants as requests
use Rattle.identifiers.specs.Names.{name_of}
use Rattle.identifiers.specs.declared.named.Named.TheVariants.{Subset}
use Rattle.archive_model.specs.declared.answers.Refused.{Refused}
use Rattle.archive_model.specs.declared.answers.Refused.TheVariants as refusals
use Rattle.cite_http.specs.declared.status.Status.{Status}
use Rattle.cite_http.specs.declared.status.Status.TheVariants as statuses

-- the rule of a batch's body
abbrev pub body_words : BatchFault → List ℕ
body_words bodies.BadHeader = codes "BadHeader"
body_words bodies.EmptyBatch = codes "EmptyBatch"
body_words bodies.TooManyLines = codes "TooManyLines"
body_words (bodies.BadWidth line) = codes "BadWidth " ++ decimal line
body_words (bodies.BadOp line) = codes "BadOp " ++ decimal line
body_words (bodies.BadCell line column) = codes "BadCell " ++ decimal line ++ codes " " ++ decimal column
body_words (bodies.KeyTwice line) = codes "KeyTwice " ++ decimal line
body_words bodies.NoMemory = codes "NoMemory"

-- the rule of a batch's lines and the table
abbrev pub line_words : ApplyFault → List ℕ
line_words (lines.KeyTaken line) = codes "KeyTaken " ++ decimal line
line_words (lines.KeyMissing line) = codes "KeyMissing " ++ decimal line
line_words lines.NoMemory = codes "NoMemory"

-- the rule of a query
abbrev pub query_words : QueryFault → List ℕ
query_words queries.NoItems = codes "NoItems"
query_words queries.TooManyParts = codes "TooManyParts"
query_words queries.TooManyNodes = codes "TooManyNodes"
query_words queries.TooDeep = codes "TooDeep"
query_words queries.TextTooLong = codes "TextTooLong"
query_words queries.ConditionTwice = codes "ConditionTwice"
query_words (queries.UnknownColumn part place) = codes "UnknownColumn " ++ decimal part ++ codes " " ++ decimal place
query_words (queries.WrongKind place) = codes "WrongKind " ++ decimal place

-- the rule of a migration's steps
abbrev pub step_words : StepFault → List ℕ
step_words (steps.BadStep step) = codes "BadStep " ++ decimal step
step_words (steps.UnknownColumn step) = codes "UnknownColumn " ++ decimal step
step_words (steps.KeyColumn step) = codes "KeyColumn " ++ decimal step
step_words (steps.WrongKind step) = codes "WrongKind " ++ decimal step
step_words (steps.NameTaken step) = codes "NameTaken " ++ decimal step
step_words (steps.TooManyColumns step) = codes "TooManyColumns " ++ decimal step
step_words steps.NoMemory = codes "NoMemory"

-- the rule of a body that is JSON
abbrev pub request_words : JsonFault → List ℕ
request_words requests.NotJson = codes "NotJson"
request_words requests.NotARequest = codes "NotARequest"
request_words (requests.NotAQuery part) = codes "NotAQuery " ++ decimal part
request_words requests.NotAMeta = codes "NotAMeta"
request_words requests.NotSteps = codes "NotSteps"
request_words requests.NoMemory = codes "NoMemory"

-- a key: a number in decimal, a text in lower-case hexadecimal, so that an empty one is nothing behind the space
abbrev pub key_words : Value → List ℕ
key_words (Int number) = signed_decimal number
key_words (Text text) = encode_lower text

-- the rule by which a call of an archive with this prefix is refused
abbrev pub refusal_words : (prefix : List ℕ) → Refused → List ℕ
refusal_words prefix (refusals.NumberUsed version) = codes "NumberUsed " ++ decimal version
refusal_words prefix (refusals.WrongSchema current) = codes "WrongSchema " ++ decimal current
refusal_words prefix (refusals.Body fault) = body_words fault
refusal_words prefix (refusals.Lines fault) = line_words fault
refusal_words prefix (refusals.Query fault) = query_words fault
refusal_words prefix (refusals.BadMeta part) = codes "BadMeta " ++ decimal part
refusal_words prefix (refusals.Steps fault) = step_words fault
refusal_words prefix (refusals.ResultTooLarge bytes) = codes "ResultTooLarge " ++ decimal bytes
refusal_words prefix (refusals.EntryTooLarge bytes) = codes "EntryTooLarge " ++ decimal bytes
refusal_words prefix (refusals.Overflow version key) = codes "Overflow " ++ decimal version ++ codes " " ++ key_words key
refusal_words prefix (refusals.Full limit) = codes "Full " ++ decimal limit
refusal_words prefix (refusals.CitedSubset number) = codes "CitedSubset " ++ name_of prefix (Subset number)
refusal_words prefix (refusals.ClockRange moment) = codes "ClockRange " ++ decimal moment
refusal_words prefix refusals.NoMemory = codes "NoMemory"
refusal_words prefix refusals.DiskFailed = codes "DiskFailed"

-- the rule that a message breaks
abbrev pub status_words : Status → List ℕ
status_words statuses.BadHead = codes "BadHead"
status_words statuses.HeadTooLong = codes "HeadTooLong"
status_words statuses.TransferCoding = codes "TransferCoding"
status_words statuses.BadLength = codes "BadLength"
status_words statuses.BodyTooLong = codes "BodyTooLong"
status_words statuses.BadTarget = codes "BadTarget"
status_words statuses.NoRoute = codes "NoRoute"
status_words (statuses.OtherMethod get) = codes "OtherMethod"
