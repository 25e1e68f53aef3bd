pub mod Step
pub mod Stored
pub mod Begin
pub mod Clear
pub mod Response
