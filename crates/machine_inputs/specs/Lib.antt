-- What the code of inputs means, where the machine's definitions have no name for it.
pub mod Ends
pub mod Given
