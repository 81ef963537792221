-- What the layers mean by areas of bytes: parts and what is laid over them, numbers in bytes, sizes of sectors.
pub mod Area
pub mod Little
pub mod Slots
