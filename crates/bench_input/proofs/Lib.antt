-- The reader keeps what can matter of an input, and that is enough.
pub mod Laws
pub mod Theorems
