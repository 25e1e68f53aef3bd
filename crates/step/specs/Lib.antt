pub mod step_check
pub mod step_result
