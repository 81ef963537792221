-- The laws that the readers' proofs cite.
pub mod Laws
pub mod Several
