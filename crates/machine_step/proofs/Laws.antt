-- The laws, a file for each subject.
pub mod Parts
pub mod Known
pub mod Sights
pub mod Readers
pub mod Task
pub mod Read
pub mod After
pub mod Ran
pub mod Taking
pub mod Hosts
pub mod Turns
