-- The replies to messages: their codes and bodies.
use Rattle.std.specs.Prelude.{ℕ, Bool, true, false, List, ◌++◌, codes}
use Rattle.query_json.specs.declared.fault.JsonFault.{JsonFault}
use Rattle.query_json.specs.declared.fault.JsonFault.TheVariants as requests
use Rattle.archive_model.specs.declared.answers.Refused.{Refused}
use Rattle.archive_model.specs.declared.answers.Refused.TheVariants as refusals
use Rattle.cite_http.specs.declared.reply.Reply.{Reply}
use Rattle.cite_http.specs.declared.reply.Media.{Media}
use Rattle.cite_http.specs.declared.reply.Media.TheVariants.{Json, Plain}
use Rattle.cite_http.specs.declared.status.Status.{Status}
use Rattle.cite_http.specs.declared.status.Status.TheVariants as statuses
use Rattle.cite_answer.specs.Words.{refusal_words, request_words, status_words}

-- the code is followed by a body of a kind
abbrev pub reply_with : (code : ℕ) (kind : Media) (body : List ℕ) (closing : Bool) → Reply
reply_with code kind body closing = record { code = code; kind = kind; body = body; allow = 0; closing = closing }

-- the code is followed by a line
abbrev pub line_reply : (code : ℕ) (words : List ℕ) (closing : Bool) → Reply
line_reply code words closing = reply_with code Plain (words ++ codes "\n") closing

-- what was asked for is there
abbrev pub found_reply : (kind : Media) (body : List ℕ) (closing : Bool) → Reply
found_reply = reply_with 200

-- nothing is there, by this name
abbrev pub missing_reply : (words : List ℕ) (closing : Bool) → Reply
missing_reply = line_reply 404

-- a change was made, or had been made before
abbrev pub change_code : (new : Bool) → ℕ
change_code true = 201
change_code false = 200

abbrev pub change_reply : (new : Bool) (body : List ℕ) (closing : Bool) → Reply
change_reply new body closing = reply_with (change_code new) Json body closing

-- the code of a refusal: a conflict with what the archive holds, a disk that failed, want of memory, or another rule
abbrev pub refusal_code : Refused → ℕ
refusal_code (refusals.NumberUsed version) = 409
refusal_code (refusals.WrongSchema current) = 409
refusal_code (refusals.CitedSubset number) = 409
refusal_code refusals.DiskFailed = 503
refusal_code refusals.NoMemory = 507
refusal_code (refusals.Body fault) = 422
refusal_code (refusals.Lines fault) = 422
refusal_code (refusals.Query fault) = 422
refusal_code (refusals.BadMeta part) = 422
refusal_code (refusals.Steps fault) = 422
refusal_code (refusals.ResultTooLarge bytes) = 422
refusal_code (refusals.EntryTooLarge bytes) = 422
refusal_code (refusals.Overflow version key) = 422
refusal_code (refusals.Full limit) = 422
refusal_code (refusals.ClockRange moment) = 422

-- a call of an archive with this prefix is refused
abbrev pub refusal_reply : (prefix : List ℕ) (closing : Bool) → Refused → Reply
refusal_reply prefix closing refusal = line_reply (refusal_code refusal) (refusal_words prefix refusal) closing

-- the disk failed
abbrev pub failed_reply : (closing : Bool) → Reply
failed_reply closing = line_reply 503 (codes "DiskFailed") closing

-- memory was wanting
abbrev pub wanting_reply : (closing : Bool) → Reply
wanting_reply closing = line_reply 507 (codes "NoMemory") closing

-- the code of a body that is no request, or for which memory was wanting
abbrev pub unread_code : JsonFault → ℕ
unread_code requests.NotJson = 422
unread_code requests.NotARequest = 422
unread_code (requests.NotAQuery part) = 422
unread_code requests.NotAMeta = 422
unread_code requests.NotSteps = 422
unread_code requests.NoMemory = 507

-- the body of a request is none
abbrev pub unread_reply : (closing : Bool) → JsonFault → Reply
unread_reply closing fault = line_reply (unread_code fault) (request_words fault) closing

-- the code of a message that is refused
abbrev pub status_code : Status → ℕ
status_code statuses.BadHead = 400
status_code statuses.HeadTooLong = 431
status_code statuses.TransferCoding = 501
status_code statuses.BadLength = 400
status_code statuses.BodyTooLong = 413
status_code statuses.BadTarget = 400
status_code statuses.NoRoute = 404
status_code (statuses.OtherMethod get) = 405

-- the method that is told where another was used: 1 stands for GET, 2 for POST
abbrev pub told_method : Status → ℕ
told_method (statuses.OtherMethod true) = 1
told_method (statuses.OtherMethod false) = 2
told_method statuses.BadHead = 0
told_method statuses.HeadTooLong = 0
told_method statuses.TransferCoding = 0
told_method statuses.BadLength = 0
told_method statuses.BodyTooLong = 0
told_method statuses.BadTarget = 0
told_method statuses.NoRoute = 0

-- a message is refused
abbrev pub status_reply : (closing : Bool) → Status → Reply
status_reply closing status = record (line_reply (status_code status) (status_words status) closing) { allow = told_method status }
