-- What a search for a place gives.
pub mod Choosing
