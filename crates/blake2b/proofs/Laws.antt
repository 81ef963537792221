-- The laws, a file for each subject.
pub mod Rotations
pub mod Steps
pub mod Data
pub mod Straight
