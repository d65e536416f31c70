-- Stamps, which are seconds since 1970-01-01T00:00:00Z, and the civil dates on which they fall.
use Rattle.std.specs.Prelude.{◌≡◌, ℕ, ◌<◌, zero, suc, ◌+◌, ◌-◌, ◌/◌, ◌%◌, pos, List, [], ◌∷◌, ◌++◌, codes, nat_lt, if◌then◌else◌}
use Rattle.jiff_core.specs.declared.civil.date.Date.{Date}
use Rattle.jiff_core.specs.Calendar.{days_in_year, days_in_month}
use Rattle.jiff_core.specs.Date.{epoch_day}

-- a stamp is of the years 1970 to 9999
abbrev pub IsStamp : ℕ → Type 0
IsStamp stamp = stamp < 253402300800

-- the year of the day that is so many days after 1 January of `year`, and its place in that year from 0: whole years are
-- counted off, at most so many
unfoldable pub year_and_place : (years year days : ℕ) → ℕ × ℕ
year_and_place zero year days = (year, days)
year_and_place (suc years) year days =
    if nat_lt days (days_in_year (pos year)) then (year, days)
    else year_and_place years (year + 1) (days - days_in_year (pos year))

-- the month of the day that is so many days after the first of `month`, and its place in that month from 0: whole months
-- are counted off, at most so many
unfoldable pub month_and_place : (year months month days : ℕ) → ℕ × ℕ
month_and_place year zero month days = (month, days)
month_and_place year (suc months) month days =
    if nat_lt days (days_in_month (pos year) month) then (month, days)
    else month_and_place year months (month + 1) (days - days_in_month (pos year) month)

-- a date of the Gregorian calendar
pub record CivilDate : Type 0 where
  pub year : ℕ
  pub month : ℕ
  pub day : ℕ

-- the date that is so many days after 1970-01-01, up to the year 9999
unfoldable pub date_of : ℕ → CivilDate
date_of days =
    let in_year = year_and_place 8029 1970 days in
    let in_month = month_and_place in_year.0 11 1 in_year.1 in
    record { year = in_year.0; month = in_month.0; day = in_month.1 + 1 }

-- a number below 100 in two digits
abbrev pub two_digits : ℕ → List ℕ
two_digits n = (48 + n / 10) ∷ (48 + n % 10) ∷ []

-- `2024-01-01`
abbrev pub date_text : CivilDate → List ℕ
date_text d =
    two_digits (d.year / 100) ++ two_digits (d.year % 100) ++ codes "-" ++ two_digits d.month ++ codes "-" ++ two_digits d.day

-- the time of day: `23:59:59`
abbrev pub time_text : ℕ → List ℕ
time_text stamp =
    two_digits (stamp % 86400 / 3600) ++ codes ":" ++ two_digits (stamp % 3600 / 60) ++ codes ":" ++ two_digits (stamp % 60)

-- the text of a stamp in UTC (RFC 3339): `2024-01-01T00:00:00Z`
unfoldable pub stamp_text : ℕ → List ℕ
stamp_text stamp = date_text (date_of (stamp / 86400)) ++ codes "T" ++ time_text stamp ++ codes "Z"

-- the year of a stamp
unfoldable pub year_of : ℕ → ℕ
year_of stamp = (date_of (stamp / 86400)).year

-- the date that is so many days after 1970-01-01 is the one of the calendar that has this day number
abbrev pub DatesAreOfTheCalendar : Type 0
DatesAreOfTheCalendar = (d : Date) (days : ℕ) → epoch_day d ≡ pos days
    → (pos (date_of days).year ≡ d.year) × ((date_of days).month ≡ d.month) × ((date_of days).day ≡ d.day)
