pub mod Valid
pub mod Sorted
pub mod Heading
pub mod Fits
pub mod Controls
