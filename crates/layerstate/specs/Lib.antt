-- The state of a run, and how it stands in its room.
pub mod State
pub mod Heads
