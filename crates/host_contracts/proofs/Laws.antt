-- The laws, a file for each subject.
pub mod Std
pub mod Early
pub mod Free
