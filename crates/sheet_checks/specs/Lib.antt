pub mod levels
pub mod mirror_cursor
pub mod mirror_scan
