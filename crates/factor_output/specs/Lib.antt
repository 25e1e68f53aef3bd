pub mod Print
pub mod Program
pub mod Worked
pub mod Compute
