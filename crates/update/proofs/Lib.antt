pub mod Lengths
pub mod Controls
pub mod Rounding
