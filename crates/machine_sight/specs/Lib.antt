-- What is seen of contracts and sectors, and what the code that reads it and looks roots up asks of its callers.
pub mod Lookup
pub mod Seen
