pub mod Turns
pub mod RowLaws
pub mod Opening
