pub mod CalendarLaws
pub mod StampLaws
pub mod TextLaws
