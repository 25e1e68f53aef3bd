pub mod Factor
pub mod Beta
pub mod Offsets
pub mod Effects
