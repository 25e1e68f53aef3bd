pub mod Horner
pub mod Rounding
pub mod Law
pub mod Serves
