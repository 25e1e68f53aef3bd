pub mod finite
pub mod list_faults
pub mod write_rows
