-- The text and the year of a stamp, out of what jiff says of its date.
use Rattle.std.proofs.Common.{◌≡◌, ℕ, pos, ◌/◌, ◌%◌, [], ◌∷◌, ◌++◌, append_assoc, refl, sym, ap, ◌∙◌}
use Rattle.jiff_core.specs.declared.civil.date.Date.{Date}
use Rattle.jiff_core.specs.declared.civil.datetime.DateTime.{DateTime}
use Rattle.jiff.specs.Words.{epoch_day, iso_datetime_text, date_text}
use Rattle.datacite_meta.specs.Stamps.{date_of, two_digits, stamp_text, year_of, date_text as civil_text}
use Rattle.datacite_meta.proofs.CalendarLaws.{of_the_calendar}

date_bytes : (d : Date) (days : ℕ) → epoch_day d ≡ pos days → date_text d ≡ civil_text (date_of days)
date_bytes d days is = let parts = of_the_calendar d days is in rw (sym parts.0, sym parts.1, sym parts.2) refl

moment_bytes : (m : DateTime) (hour minute second : ℕ) → m.time.hour ≡ hour → m.time.minute ≡ minute → m.time.second ≡ second → m.time.subsec_nanosecond ≡ 0
    → iso_datetime_text m ++ 90 ∷ [] ≡ date_text m.date ++ 84 ∷ (two_digits hour ++ 58 ∷ (two_digits minute ++ 58 ∷ (two_digits second ++ 90 ∷ [])))
moment_bytes m hour minute second h n s none = append_assoc (date_text m.date) _ (90 ∷ []) ∙ rw (h, n, s, none) refl

-- the text of the moment of a stamp, and then the letter Z
pub stamp_bytes : (stamp : ℕ) (m : DateTime) → epoch_day m.date ≡ pos (stamp / 86400) → m.time.hour ≡ stamp % 86400 / 3600 → m.time.minute ≡ stamp % 3600 / 60 → m.time.second ≡ stamp % 60
    → m.time.subsec_nanosecond ≡ 0 → iso_datetime_text m ++ 90 ∷ [] ≡ stamp_text stamp
unfolding stamp_text
stamp_bytes stamp m date hour minute second none =
    moment_bytes m _ _ _ hour minute second none
    ∙ ap (λ t. t ++ 84 ∷ (two_digits (stamp % 86400 / 3600) ++ 58 ∷ (two_digits (stamp % 3600 / 60) ++ 58 ∷ (two_digits (stamp % 60) ++ 90 ∷ [])))) (date_bytes m.date (stamp / 86400) date)

pub year_is : (stamp : ℕ) (d : Date) → epoch_day d ≡ pos (stamp / 86400) → d.year ≡ pos (year_of stamp)
unfolding year_of
year_is stamp d date = sym (of_the_calendar d (stamp / 86400) date).0
