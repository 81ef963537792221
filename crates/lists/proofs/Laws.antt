-- The laws, a file for each subject.
pub mod Pick
pub mod Ways
pub mod Entries
pub mod Tab
pub mod Every
pub mod Some
pub mod Each
pub mod Slices
pub mod Lowest
pub mod Counts
pub mod Apart
pub mod Pigeons
pub mod Sums
pub mod Library
