pub mod ready_step
pub mod full_update
