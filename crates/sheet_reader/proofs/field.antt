pub mod Table
pub mod Fields
