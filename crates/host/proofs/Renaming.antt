-- The same host under new ids, a file for each subject.
pub mod Places
pub mod Contracts
pub mod Exchange
