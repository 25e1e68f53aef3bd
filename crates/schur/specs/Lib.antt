pub mod Schur
pub mod few_rows
pub mod rank_diagonal
