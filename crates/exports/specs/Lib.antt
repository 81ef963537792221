-- What the exported functions answer.
pub mod Numbers
pub mod Programs
