pub mod Written
pub mod Input
