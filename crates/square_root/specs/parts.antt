pub mod Radicand
