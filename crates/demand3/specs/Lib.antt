pub mod Demand
pub mod Results
