-- What the layers mean by cases, by tests of lists, by the lowest of a kind, and by a list of what a function gives.
pub mod Pick
pub mod Tests
pub mod Lowest
pub mod Tab
