pub mod Sums
pub mod Rows
pub mod Exact
pub mod Forms
pub mod Doubles
pub mod Products
pub mod Controls
