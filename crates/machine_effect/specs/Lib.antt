-- What effects and rehashing ask of their callers, and the parts that they are given.
pub mod Rehashes
pub mod Parts
pub mod Asks
