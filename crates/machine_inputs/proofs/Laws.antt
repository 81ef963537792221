-- The laws, a file for each subject.
pub mod Sums
pub mod Or
pub mod Ends
pub mod Decoders
pub mod Given
