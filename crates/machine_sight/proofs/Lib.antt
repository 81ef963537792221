-- The laws that the proofs cite, and those that callers use: of what is seen, and of look-ups.
pub mod Laws
pub mod Looks
pub mod Callers
