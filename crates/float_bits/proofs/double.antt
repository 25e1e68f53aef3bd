pub mod Leading
pub mod Value
pub mod Tests
pub mod Bits
