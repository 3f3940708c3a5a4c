-- The start of a walk, as the code has it.
pub mod Starting
