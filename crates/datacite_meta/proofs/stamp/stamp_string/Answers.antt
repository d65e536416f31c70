use Rattle.std.proofs.Common.{◌≡◌, ◌∙◌, ap, ◌++◌, ◌∷◌, [], pos, ◌/◌, ◌%◌}
use Rattle.jiff.specs.Words.{epoch_day}
use Rattle.datacite_meta.proofs.StampLaws.{stamp_bytes}
use Rattle.datacite_meta.proofs.stamp.stamp_string.Goals as goal

pub returns : goal.returns
returns c =
    let time = c.time_of.ensures in
    let moment = c.from_parts.result in
    let same_date : moment.date ≡ c.date_of.result = c.from_parts.ensures.date in
    let same_time : moment.time ≡ c.time_of.result = c.from_parts.ensures.time in
    let date : epoch_day moment.date ≡ pos (c.args.stamp / 86400) = ap epoch_day same_date ∙ c.date_of.ensures in
    let hour : moment.time.hour ≡ c.args.stamp % 86400 / 3600 = cc in
    let minute : moment.time.minute ≡ c.args.stamp % 3600 / 60 = cc in
    let second : moment.time.second ≡ c.args.stamp % 60 = cc in
    let none : moment.time.subsec_nanosecond ≡ 0 = cc in
    c.in_ok-push_str.ensures.bytes ∙ ap (λ text. text ++ 90 ∷ []) c.in_ok-text.ensures ∙ stamp_bytes c.args.stamp moment date hour minute second none
