-- Laws that this crate's proofs cite, and its callers' may.
pub mod Listing
pub mod Newest
pub mod SignedLaws
pub mod ViewLaws
