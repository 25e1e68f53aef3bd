pub mod block_sizes
pub mod block_kinds
pub mod sheet_rows
pub mod Working
