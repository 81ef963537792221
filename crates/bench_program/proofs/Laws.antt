-- The laws, a file for each subject.
pub mod Turns
pub mod Plays
pub mod Input
pub mod Spoken
