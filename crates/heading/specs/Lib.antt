pub mod writer
