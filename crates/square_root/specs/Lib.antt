pub mod Root
pub mod Nearest
pub mod whole_root
pub mod parts
