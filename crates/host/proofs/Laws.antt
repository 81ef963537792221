-- The laws, a file for each subject.
pub mod Chains
pub mod Refusals
pub mod Places
pub mod Whose
pub mod Slots
pub mod Sizes
pub mod Sums
pub mod Order
pub mod Forming
pub mod Lengths
