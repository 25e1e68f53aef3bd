pub mod Ordered
pub mod block_order
pub mod gate_search
pub mod column_entries
