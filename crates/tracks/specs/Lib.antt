-- What a reader must believe of a drive and of the places that a commit takes on it.
pub mod Placing
pub mod Upwards
