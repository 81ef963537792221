-- The laws that tie the calls to their definitions; what close asks of a commit.
pub mod Laws
pub mod Callers
