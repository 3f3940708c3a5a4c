-- What is shown of the definitions: every condition of a signed sector, and the bytes of what is stored.
pub mod Conditions
