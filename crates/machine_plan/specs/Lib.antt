-- What planning asks of its callers, and what goes with a plan.
pub mod Source
pub mod Planned
pub mod Numbers
