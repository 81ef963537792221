-- What the proofs of this crate rest on.
pub mod Laws
