pub mod layout_check
pub mod stage_check
