-- Laws that this crate's proofs cite.
pub mod Gathering
