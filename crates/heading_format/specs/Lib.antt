pub mod Parts
pub mod Marked
pub mod Heading
pub mod Fits
