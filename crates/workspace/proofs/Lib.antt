pub mod Lengths
pub mod ListFaults
pub mod Valid
pub mod ValidHeading
pub mod Fresh
pub mod Controls
pub mod Meaning
