pub mod Parts
pub mod Kind
