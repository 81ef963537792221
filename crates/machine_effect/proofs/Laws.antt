-- The laws, a file for each subject.
pub mod Cases
pub mod Passed
pub mod KeptRoots
pub mod Asked
pub mod Spans
pub mod Slots
pub mod Copies
pub mod Kept
