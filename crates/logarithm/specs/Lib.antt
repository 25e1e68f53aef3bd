pub mod Ln
pub mod exact_log
pub mod fixed_point
pub mod split
