pub mod Invariant
pub mod Site
pub mod Open
pub mod Begin
pub mod Step
