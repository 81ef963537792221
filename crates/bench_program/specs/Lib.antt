-- One program from a fresh host to its close, and the whole input of the program that plays it.
pub mod Single
pub mod Input
