pub mod kernel_sizes
