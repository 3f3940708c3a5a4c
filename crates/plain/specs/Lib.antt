-- States and results in plain numbers.
pub mod Plain
