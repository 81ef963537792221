-- The laws, a file for each subject.
pub mod Inverse
pub mod Known
pub mod Joined
pub mod Limits
pub mod There
pub mod Honest
pub mod Back
pub mod Proper
