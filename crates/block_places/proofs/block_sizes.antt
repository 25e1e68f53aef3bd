pub mod Before
pub mod Growing
pub mod Sizes
