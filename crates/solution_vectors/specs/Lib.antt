pub mod Vectors
pub mod result_places
