pub mod scaled_blocks
pub mod write_begin
