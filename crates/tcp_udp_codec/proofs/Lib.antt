pub mod OptionLaws
pub mod WalkLaws
