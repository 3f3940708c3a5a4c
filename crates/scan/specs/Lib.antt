-- What a scan found, as the code has it.
pub mod Scanned
