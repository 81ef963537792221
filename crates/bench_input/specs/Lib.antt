-- The reader of an input, what is kept of it, that this is enough, and what reading leaves.
pub mod Reader
pub mod Kept
pub mod Gathered
