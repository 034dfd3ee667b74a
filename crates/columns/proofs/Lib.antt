-- The parts of the work room; what a column becomes, and that it holds a field of the records.
pub mod Rooms
pub mod Gathering
pub mod Fields
pub mod Turns
