pub mod Walking
pub mod Seeing
pub mod Playing
pub mod BookLaws
