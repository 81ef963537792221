-- The laws of areas, stated once and cited by every layer.
pub mod Laws
