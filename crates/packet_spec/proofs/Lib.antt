pub mod PacketLaws
pub mod FoldLaws
pub mod SumLaws
pub mod LayoutLaws
pub mod KeptLaws
pub mod EditLaws
pub mod RightLaws
pub mod FineLaws
pub mod AgreeLaws
pub mod PlaceLaws
pub mod BecomeLaws
pub mod WholeLaws
pub mod JoinLaws
mod WorkedBytes
mod Worked
