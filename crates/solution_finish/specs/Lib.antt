pub mod Outcome
pub mod fixed_rows
pub mod l_x
pub mod beta
pub mod u_vector
pub mod b_vector
pub mod result_laws
pub mod result_parts
