-- The volumes of all shells, two words each, in the reader's work room.
pub mod Volumes
pub mod Turns
