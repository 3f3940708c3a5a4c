-- What every storing call keeps of what is lent.
pub mod Kept
