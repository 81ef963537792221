-- The laws that the proofs of a run share.
pub mod Laws
