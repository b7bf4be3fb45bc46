pub mod SpellingLaws
pub mod AgainLaws
pub mod WholeLaws
pub mod LengthLaws
pub mod Worked
