pub mod Field
pub mod Line
pub mod Run
pub mod Sheet
pub mod Whole
pub mod Fault
pub mod Answer
pub mod Text
