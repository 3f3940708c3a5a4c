-- What is shown of quotes: what they promise, and rows that a wrong definition runs into.
pub mod Sectors
