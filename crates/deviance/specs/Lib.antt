pub mod deviance_tail
