pub mod judge
pub mod room
