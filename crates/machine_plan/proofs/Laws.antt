-- The laws, a file for each subject.
pub mod Weighed
pub mod Lookup
pub mod Planned
pub mod Sums
pub mod Numbers
pub mod Costs
pub mod Room
