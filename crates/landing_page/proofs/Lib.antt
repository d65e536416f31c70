pub mod MarkupLaws
