pub mod Subtracted
