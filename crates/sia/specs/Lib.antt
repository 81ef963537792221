-- What heads in Sia encoding are: numbers, names, the bytes of a head, and how bytes are read back.
pub mod Number
pub mod Names
pub mod Empty
pub mod Encode
pub mod Decode
pub mod Trim
pub mod Bench
