-- The records of all shells, field by field, in the reader's work room.
pub mod Room
pub mod Columns
pub mod Turns
