pub mod blocks
pub mod axpy
