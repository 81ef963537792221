-- What the writer answers.
pub mod Refusals
