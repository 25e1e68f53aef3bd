pub mod Written
pub mod pivot_lines
pub mod refusal_text
