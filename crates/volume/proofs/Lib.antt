-- What is shown of the definitions: the rows that a wrong one runs into.
pub mod Rows
pub mod ByHand
pub mod Corners
pub mod Readings
pub mod Lent
pub mod Drives
pub mod Sound
pub mod Limits
