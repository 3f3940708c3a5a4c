-- Equal numbers, as the code looks for them.
pub mod Chains
