pub mod Bracket
pub mod Order
pub mod Ends
pub mod Meet
pub mod Controls
