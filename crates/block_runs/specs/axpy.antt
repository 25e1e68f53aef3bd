pub mod Axpy
