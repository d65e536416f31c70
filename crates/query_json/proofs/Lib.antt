pub mod MemberLaws
pub mod ListLaws
pub mod BodyLaws
pub mod NameLaws
pub mod StepLaws
