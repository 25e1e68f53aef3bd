pub mod Every
pub mod Sheets
