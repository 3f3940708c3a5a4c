-- What a walk found, as the code has it.
pub mod Walking
