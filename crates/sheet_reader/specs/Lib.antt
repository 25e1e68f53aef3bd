pub mod sheet_lines
pub mod word_field
