pub mod Picking
pub mod Reading
