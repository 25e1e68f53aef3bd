pub mod Factor
