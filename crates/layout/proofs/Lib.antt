pub mod Made
pub mod Places
pub mod Rows
pub mod Formula
pub mod Factors
pub mod Sums
pub mod Controls
