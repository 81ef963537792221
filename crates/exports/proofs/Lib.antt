-- What the proofs of several functions cite.
pub mod Read
pub mod Played
