pub mod Ready
pub mod Rules
