-- A mesh in the reader's work room.
pub mod Numbered
