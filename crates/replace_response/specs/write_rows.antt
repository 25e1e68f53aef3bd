pub mod Strided
