-- The date of a day number is the one of jiff's calendar.
use Rattle.std.proofs.Common.{◌≡◌, ℕ, ℤ, zero, suc, ◌+◌, ◌-◌, ◌<◌, ◌≤◌, inl, inr, pos, negsuc, ◌<ℤ◌, ◌≤ℤ◌, refl, sym, ap, ◌∙◌, arith}
use Rattle.std.proofs.lemmas.Bool.{cases_lt, lt-ltb, le-ltb}
use Rattle.std.proofs.lemmas.Int.{by_lt_z}
use Rattle.jiff_core.specs.declared.civil.date.Date.{Date}
use Rattle.jiff_core.specs.Calendar.{days_in_year, days_in_month, days_of_months, day_of_year, day_count, days_from_civil, IsCivilDate}
use Rattle.jiff_core.specs.Date.{epoch_day}
use Rattle.jiff_core.proofs.DateLemmas.{civil, epoch_day-lt}
use Rattle.jiff_core.proofs.CalendarLemmas.{day_count-day_of_year, day_count-later_year, day_count-next_year, day_count-epoch, day_of_year_before, days_of_months-zero, days_of_months_more, days_of_months_mono, days_of_months_all, days_from_civil-day_count}
use Rattle.jiff.proofs.SpanFacts.{signed_arith}
use Rattle.datacite_meta.specs.Stamps.{year_and_place, month_and_place, date_of, DatesAreOfTheCalendar}

-- pairs of the same
pair_same : (a b c d : ℕ) → a ≡ c → b ≡ d → ◌≡◌ {A = ℕ × ℕ} (a, b) (c, d)
pair_same a b c d p q = rw (p, q) refl

-- how many days lie before a year
before_year : ℕ → ℕ
before_year year = day_count (pos year) 1 1

next_year : (year : ℕ) → before_year (year + 1) ≡ before_year year + days_in_year (pos year)
unfolding before_year
next_year year = day_count-next_year (pos year) (pos (year + 1)) (omega (arith, signed_arith)) (omega (arith, signed_arith))

later_year : (year later : ℕ) → year < later → before_year year + days_in_year (pos year) ≤ before_year later
unfolding before_year
later_year year later h = day_count-later_year (pos year) (pos later) (omega (arith, signed_arith)) (omega (arith, signed_arith))

-- the year of a day, where the year is known
place_in_year : (years year days last place : ℕ) → year ≤ last → last ≤ years + year → days + before_year year ≡ before_year last + place → place < days_in_year (pos last) → ◌≡◌ {A = ℕ × ℕ} (year_and_place years year days) (last, place)
unfolding year_and_place
place_in_year zero year days last place from to same within =
    let here : year ≡ last = omega arith in
    let rest : days ≡ place = omega (arith, ap before_year here) in
    pair_same year days last place here rest
place_in_year (suc years) year days last place from to same within =
    elim (cases_lt days (days_in_year (pos year))) [
      | inl inside ↦
          let here = year_within year days last place from same inside in
          let rest : days ≡ place = omega (arith, ap before_year here) in
          rw (lt-ltb days (days_in_year (pos year)) inside) (pair_same year days last place here rest)
      | inr behind ↦
          let less = year_behind year days last place from same within behind in
          rw (le-ltb days (days_in_year (pos year)) behind) (place_in_year years (year + 1) (days - days_in_year (pos year)) last place
          (omega arith) (omega arith) (omega (arith, next_year year)) within)
    ]
  where
    year_within : (year days last place : ℕ) → year ≤ last → days + before_year year ≡ before_year last + place → days < days_in_year (pos year) → year ≡ last
    year_within year days last place from same inside = elim (cases_lt year last) [
      | inl less ↦ absurd (omega (arith, later_year year last less))
      | inr more ↦ omega arith
    ]

    year_behind : (year days last place : ℕ) → year ≤ last → days + before_year year ≡ before_year last + place → place < days_in_year (pos last) → days_in_year (pos year) ≤ days → year < last
    year_behind year days last place from same within behind = elim (cases_lt year last) [
      | inl less ↦ less
      | inr more ↦ let here : year ≡ last = omega arith in absurd (omega (arith, ap before_year here, ap (λ y. days_in_year (pos y)) here))
    ]

-- the month of a day, where the month is known
place_in_month : (year months month days last place : ℕ) → 1 ≤ month → month ≤ last → last ≤ months + month → days + days_of_months (pos year) (month - 1) ≡ days_of_months (pos year) (last - 1) + place → place < days_in_month (pos year) last
    → ◌≡◌ {A = ℕ × ℕ} (month_and_place year months month days) (last, place)
unfolding month_and_place
place_in_month year zero month days last place first from to same within =
    let here : month ≡ last = omega arith in
    let rest : days ≡ place = omega (arith, ap (λ m. days_of_months (pos year) (m - 1)) here) in
    pair_same month days last place here rest
place_in_month year (suc months) month days last place first from to same within =
    elim (cases_lt days (days_in_month (pos year) month)) [
      | inl inside ↦
          let here = month_within month days last place first from same inside in
          let rest : days ≡ place = omega (arith, ap (λ m. days_of_months (pos year) (m - 1)) here) in
          rw (lt-ltb days (days_in_month (pos year) month) inside) (pair_same month days last place here rest)
      | inr behind ↦
          let less = month_behind month days last place from same within behind in
          let back : month + 1 - 1 ≡ month = omega arith in
          let more = days_of_months_more (pos year) month first in
          rw (le-ltb days (days_in_month (pos year) month) behind) (place_in_month year months (month + 1) (days - days_in_month (pos year) month) last place
          (omega arith) (omega arith) (omega arith) (omega (arith, ap (days_of_months (pos year)) back)) within)
    ]
  where
    month_within : (month days last place : ℕ) → 1 ≤ month → month ≤ last → days + days_of_months (pos year) (month - 1) ≡ days_of_months (pos year) (last - 1) + place → days < days_in_month (pos year) month → month ≡ last
    month_within month days last place first from same inside = elim (cases_lt month last) [
      | inl less ↦ absurd (omega (arith, days_of_months_more (pos year) month first, days_of_months_mono (pos year) month (last - 1) (omega arith)))
      | inr more ↦ omega arith
    ]

    month_behind : (month days last place : ℕ) → month ≤ last → days + days_of_months (pos year) (month - 1) ≡ days_of_months (pos year) (last - 1) + place → place < days_in_month (pos year) last → days_in_month (pos year) month ≤ days → month < last
    month_behind month days last place from same within behind = elim (cases_lt month last) [
      | inl less ↦ less
      | inr more ↦ let here : month ≡ last = omega arith in absurd (omega (arith, ap (λ m. days_of_months (pos year) (m - 1)) here, ap (days_in_month (pos year)) here))
    ]

-- the parts of a date are these
abbrev HasParts : ℕ → ℕ → ℕ → ℕ → Type 0
HasParts days year month day = ((date_of days).year ≡ year) × ((date_of days).month ≡ month) × ((date_of days).day ≡ day)

has_parts : (days year month day place : ℕ) → ◌≡◌ {A = ℕ × ℕ} (year_and_place 8029 1970 days) (year, place) → ◌≡◌ {A = ℕ × ℕ} (month_and_place year 11 1 place) (month, day - 1) → 1 ≤ day → HasParts days year month day
unfolding date_of
has_parts days year month day place in_year in_month from = rw (in_year, in_month) (refl, refl, omega arith)

-- a date is so many days behind the days before its year
starts_at : (year month day : ℕ) → 1 ≤ day → day_count (pos year) month day + 1 ≡ before_year year + day_of_year (pos year) month day
unfolding before_year
starts_at year month day from = day_count-day_of_year (pos year) month day from

-- the date of a day of the calendar, from 1970 on
date_is : (days year month day : ℕ) → 1970 ≤ year → year ≤ 9999 → IsCivilDate (pos year) month day → day_count (pos year) month day ≡ days + before_year 1970 → HasParts days year month day
date_is days year month day from to is counted =
    let place = day_of_year (pos year) month day - 1 in
    let start : day_count (pos year) month day + 1 ≡ before_year year + day_of_year (pos year) month day = starts_at year month day is.2.0 in
    let bound : day_of_year (pos year) month day ≤ days_in_year (pos year) = rw days_of_months_all at (day_of_year_before (pos year) month day 12 is.1.0 is.2.1 is.1.1) in
    let in_year = place_in_year 8029 1970 days year place from (omega arith) (omega arith) (omega arith) in
    let in_month = place_in_month year 11 1 place month (day - 1) (omega arith) is.1.0 (omega (arith, is.1.1)) (omega (arith, is.2.0, days_of_months-zero (pos year))) (omega (arith, is.2.0, is.2.1)) in
    has_parts days year month day place in_year in_month is.2.0

first : Date
first = record { year = pos 1970; month = 1; day = 1; year_in = omega (arith, signed_arith); month_in = omega arith; day_in = omega arith }

first_day : epoch_day first ≡ pos 0
unfolding days_from_civil first
first_day = omega (arith, signed_arith)

-- a day number that is not negative is of a year from 1970 on
year_from : (d : Date) (days : ℕ) → epoch_day d ≡ pos days → pos 1970 ≤ℤ d.year
unfolding first
year_from d days is = by_lt_z d.year (pos 1970)
    (λ less.
    let before : epoch_day d <ℤ epoch_day first = epoch_day-lt d first (inl less) in
    let negative : pos days <ℤ pos 0 = rw (is, first_day) at before in
    absurd (omega (arith, signed_arith)))
    (λ more. more)

counted : (d : Date) (days year : ℕ) → d.year ≡ pos year → epoch_day d ≡ pos days → day_count (pos year) d.month d.day ≡ days + before_year 1970
unfolding before_year
counted d days year is day =
    let number : days_from_civil (pos year) d.month d.day ≡ pos days = rw is at day in
    omega (arith, signed_arith, days_from_civil-day_count (pos year) d.month d.day, day_count-epoch, number)

pub of_the_calendar : DatesAreOfTheCalendar
of_the_calendar d days day = by_year d.year refl
  where
    by_year : (y : ℤ) → d.year ≡ y → (pos (date_of days).year ≡ d.year) × ((date_of days).month ≡ d.month) × ((date_of days).day ≡ d.day)
    by_year (negsuc n) is = absurd (omega (arith, signed_arith, year_from d days day, is))
    by_year (pos year) is =
        let from : 1970 ≤ year = omega (arith, signed_arith, year_from d days day, is) in
        let to : year ≤ 9999 = omega (arith, signed_arith, d.year_in.1, is) in
        let civil_parts : IsCivilDate (pos year) d.month d.day = rw is at (civil d) in
        let parts = date_is days year d.month d.day from to civil_parts (counted d days year is day) in
        (ap pos parts.0 ∙ sym is, parts.1, parts.2)
