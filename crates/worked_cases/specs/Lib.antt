pub mod Table
pub mod Sheets
pub mod Evaluate
pub mod Starred
