-- Names for parts of document 01's definitions that one function each decides.
pub mod Header
