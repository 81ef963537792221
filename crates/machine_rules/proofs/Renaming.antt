-- Every call under new ids, a file for each subject.
pub mod Heads
pub mod Sight
pub mod Inputs
pub mod Steps
pub mod Opening
pub mod Refusals
pub mod Programs
pub mod Closing
pub mod Alike
