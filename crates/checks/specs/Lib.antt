-- What a call is lent and leaves, put together from slices.
pub mod Left
