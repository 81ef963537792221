-- What the readers of sections answer.
pub mod Faults
