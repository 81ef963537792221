-- The theorems about heads, and the laws that they and the functions' proofs cite.
pub mod Theorems
pub mod Laws
