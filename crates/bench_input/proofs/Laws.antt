-- The laws, a file for each subject.
pub mod Forms
pub mod Heads
pub mod Pieces
pub mod Least
pub mod Sections
pub mod Missing
pub mod Laying
pub mod Feeding
pub mod Standing
pub mod Passing
pub mod Reading
pub mod Gathering
