pub mod Calls
pub mod Never
pub mod Agrees
pub mod Ready
pub mod Finished
pub mod Demand
pub mod Results
