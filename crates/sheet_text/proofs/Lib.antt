pub mod Long
pub mod Accepts
pub mod Texts
