pub mod Exchange
pub mod Loads
