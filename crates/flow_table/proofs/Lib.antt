pub mod PutLaws
pub mod TimeLaws
