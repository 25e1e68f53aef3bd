pub mod Fraction
pub mod Artanh
pub mod Log
