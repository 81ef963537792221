-- The laws that the proofs of the calls share, a file for each subject.
pub mod Marks
pub mod Filled
pub mod Turns
pub mod Bytes
pub mod Growth
pub mod Shapes
pub mod Seats
pub mod Beside
pub mod Hosts
