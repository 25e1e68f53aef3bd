pub mod Cases
pub mod Sheets
