-- What inner functions ask of their callers, and what the calls leave beside their answers. What the calls mean stands in machine_rules.
pub mod Closes
pub mod Marks
pub mod Back
pub mod Beside
pub mod Asks
