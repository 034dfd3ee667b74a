-- Writing: a text in a lent room, and the line of a refusal.
pub mod Writing
