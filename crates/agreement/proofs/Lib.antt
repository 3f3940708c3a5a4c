-- Tables that agree with an image, the plan, the members and the stores of a commit on them, and that they agree again after it.
pub mod Agreed
pub mod Room
pub mod Listing
pub mod Plan
pub mod Members
pub mod Stored
pub mod Sound
pub mod Kept
