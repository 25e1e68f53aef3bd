pub mod Lands
pub mod Positions
pub mod Facts
pub mod Values
pub mod Cells
pub mod Numbers
pub mod Loads
