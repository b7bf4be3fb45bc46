pub mod Spelled
pub mod Rooms
pub mod RowLaws
pub mod OwnerLaws
