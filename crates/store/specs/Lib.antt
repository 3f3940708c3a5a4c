-- What the stores of a commit rely on.
pub mod Ready
