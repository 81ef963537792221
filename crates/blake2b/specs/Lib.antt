-- The hash: RFC 7693 BLAKE2b, what `digest` answers, and what the layers above may use.
pub mod Schedule
pub mod Compression
pub mod Blake2b
pub mod Answers
pub mod Promise
