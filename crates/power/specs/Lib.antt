-- What is left of an allowance.
pub mod Power
