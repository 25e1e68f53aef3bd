pub mod Places
pub mod Columns
pub mod Entries
pub mod Cursors
pub mod Turns
