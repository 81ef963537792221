-- The laws that the proofs cite, and what callers use.
pub mod Laws
pub mod Callers
