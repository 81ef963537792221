-- The laws of lists, stated once and cited by every layer.
pub mod Laws
pub mod Kit
