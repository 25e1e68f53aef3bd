pub mod Beta
