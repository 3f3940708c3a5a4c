-- The newest candidate of a listing.
pub mod Listing
