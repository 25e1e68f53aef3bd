pub mod Views
pub mod pivot_places
