pub mod Arithmetic
pub mod Sums
pub mod Begin
pub mod Steps
pub mod Cholesky
pub mod Solves
pub mod Finish
pub mod Exact
