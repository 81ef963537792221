-- The laws, a file for each subject.
pub mod Parts
pub mod Puts
pub mod Lent
pub mod Loops
pub mod Exchange
pub mod Same
pub mod Little
pub mod Slots
