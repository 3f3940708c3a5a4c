-- What a reader must believe of document 02, point 5: the quote of a commit, and what it promises.
pub mod Quote
pub mod Promise
