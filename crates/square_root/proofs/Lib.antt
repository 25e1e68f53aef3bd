pub mod Value
pub mod Middle
pub mod Doubles
pub mod Theorems
pub mod Controls
