-- What the writers of records lay, part by part, and what a step and the turns ask of their callers.
pub mod Front
pub mod Shown
pub mod Asks
pub mod Turns
pub mod Told
