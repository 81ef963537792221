-- The laws, a file for each subject.
pub mod Gathered
pub mod Sights
pub mod Lookup
pub mod Sectors
pub mod Roots
