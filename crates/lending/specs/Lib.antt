-- What is lent, as the definitions see it.
pub mod Lending
