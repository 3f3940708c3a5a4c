-- What this crate's contracts say.
pub mod Park
