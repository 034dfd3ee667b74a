-- The work room as lines are read into it.
pub mod Rooms
pub mod Lines
pub mod Last
