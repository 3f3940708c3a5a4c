-- A log that was found, as the code has it.
pub mod LogTables
