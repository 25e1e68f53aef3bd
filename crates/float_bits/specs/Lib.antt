pub mod double
pub mod words
