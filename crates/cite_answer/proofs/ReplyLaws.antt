-- Each reply here has one of the codes, and tells a method exactly where its code is 405.
use Rattle.std.proofs.Common.{◌≡◌, ℕ, Bool, true, false, List, refl}
use Rattle.std.specs.Prelude.{IsTrue, ◌==◌, ◌||◌}
use Rattle.query_json.specs.declared.fault.JsonFault.{JsonFault}
use Rattle.query_json.specs.declared.fault.JsonFault.TheVariants as requests
use Rattle.archive_model.specs.declared.answers.Refused.{Refused}
use Rattle.archive_model.specs.declared.answers.Refused.TheVariants as refusals
use Rattle.cite_http.specs.declared.reply.Reply.{Reply}
use Rattle.cite_http.specs.declared.reply.Media.{Media}
use Rattle.cite_http.specs.declared.status.Status.{Status}
use Rattle.cite_http.specs.declared.status.Status.TheVariants as statuses
use Rattle.cite_http.specs.Responses.{IsReply}
use Rattle.cite_answer.specs.Replies.{found_reply, missing_reply, change_reply, refusal_reply, unread_reply, status_reply}

pub found_is_reply : (kind : Media) (body : List ℕ) (closing : Bool) → IsReply (found_reply kind body closing)
found_is_reply kind body closing = record { code = refl; allow = refl; none = λ no. refl }

pub missing_is_reply : (words : List ℕ) (closing : Bool) → IsReply (missing_reply words closing)
missing_is_reply words closing = record { code = refl; allow = refl; none = λ no. refl }

pub change_is_reply : (new : Bool) (body : List ℕ) (closing : Bool) → IsReply (change_reply new body closing)
change_is_reply true body closing = record { code = refl; allow = refl; none = λ no. refl }
change_is_reply false body closing = record { code = refl; allow = refl; none = λ no. refl }

pub unread_is_reply : (closing : Bool) (fault : JsonFault) → IsReply (unread_reply closing fault)
unread_is_reply closing requests.NotJson = record { code = refl; allow = refl; none = λ no. refl }
unread_is_reply closing requests.NotARequest = record { code = refl; allow = refl; none = λ no. refl }
unread_is_reply closing (requests.NotAQuery part) = record { code = refl; allow = refl; none = λ no. refl }
unread_is_reply closing requests.NotAMeta = record { code = refl; allow = refl; none = λ no. refl }
unread_is_reply closing requests.NotSteps = record { code = refl; allow = refl; none = λ no. refl }
unread_is_reply closing requests.NoMemory = record { code = refl; allow = refl; none = λ no. refl }

pub refusal_is_reply : (prefix : List ℕ) (closing : Bool) (refusal : Refused) → IsReply (refusal_reply prefix closing refusal)
refusal_is_reply prefix closing (refusals.NumberUsed version) = record { code = refl; allow = refl; none = λ no. refl }
refusal_is_reply prefix closing (refusals.WrongSchema current) = record { code = refl; allow = refl; none = λ no. refl }
refusal_is_reply prefix closing (refusals.CitedSubset number) = record { code = refl; allow = refl; none = λ no. refl }
refusal_is_reply prefix closing refusals.DiskFailed = record { code = refl; allow = refl; none = λ no. refl }
refusal_is_reply prefix closing refusals.NoMemory = record { code = refl; allow = refl; none = λ no. refl }
refusal_is_reply prefix closing (refusals.Body fault) = record { code = refl; allow = refl; none = λ no. refl }
refusal_is_reply prefix closing (refusals.Lines fault) = record { code = refl; allow = refl; none = λ no. refl }
refusal_is_reply prefix closing (refusals.Query fault) = record { code = refl; allow = refl; none = λ no. refl }
refusal_is_reply prefix closing (refusals.BadMeta part) = record { code = refl; allow = refl; none = λ no. refl }
refusal_is_reply prefix closing (refusals.Steps fault) = record { code = refl; allow = refl; none = λ no. refl }
refusal_is_reply prefix closing (refusals.ResultTooLarge bytes) = record { code = refl; allow = refl; none = λ no. refl }
refusal_is_reply prefix closing (refusals.EntryTooLarge bytes) = record { code = refl; allow = refl; none = λ no. refl }
refusal_is_reply prefix closing (refusals.Overflow version key) = record { code = refl; allow = refl; none = λ no. refl }
refusal_is_reply prefix closing (refusals.Full limit) = record { code = refl; allow = refl; none = λ no. refl }
refusal_is_reply prefix closing (refusals.ClockRange moment) = record { code = refl; allow = refl; none = λ no. refl }

pub status_is_reply : (closing : Bool) (status : Status) → IsReply (status_reply closing status)
status_is_reply closing statuses.BadHead = record { code = refl; allow = refl; none = λ no. refl }
status_is_reply closing statuses.HeadTooLong = record { code = refl; allow = refl; none = λ no. refl }
status_is_reply closing statuses.TransferCoding = record { code = refl; allow = refl; none = λ no. refl }
status_is_reply closing statuses.BadLength = record { code = refl; allow = refl; none = λ no. refl }
status_is_reply closing statuses.BodyTooLong = record { code = refl; allow = refl; none = λ no. refl }
status_is_reply closing statuses.BadTarget = record { code = refl; allow = refl; none = λ no. refl }
status_is_reply closing statuses.NoRoute = record { code = refl; allow = refl; none = λ no. refl }
status_is_reply closing (statuses.OtherMethod true) = record { code = refl; allow = refl; none = λ no. absurd (cc) }
status_is_reply closing (statuses.OtherMethod false) = record { code = refl; allow = refl; none = λ no. absurd (cc) }
