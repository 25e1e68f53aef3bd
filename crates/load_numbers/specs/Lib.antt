pub mod Rows
pub mod word_address
pub mod sheet_words
