-- Signed sectors as the code goes about them.
pub mod Signed
