-- The order of the refusals, by their numbers.
pub mod Order
