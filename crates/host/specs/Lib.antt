-- What the record of a host means: its empty values, its contracts and slots, when it is in order, and the calls fresh, form and drop.
pub mod Sizes
pub mod Empty
pub mod With
pub mod Places
pub mod Listed
pub mod Order
pub mod Facts
pub mod Refusals
pub mod Calls
pub mod Padded
pub mod Renaming
pub mod Bench
