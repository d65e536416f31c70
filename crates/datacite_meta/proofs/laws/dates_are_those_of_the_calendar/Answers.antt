use Rattle.datacite_meta.proofs.CalendarLaws.{of_the_calendar}
use Rattle.datacite_meta.proofs.laws.dates_are_those_of_the_calendar.Goals as goal

pub returns : goal.returns
returns c = of_the_calendar
