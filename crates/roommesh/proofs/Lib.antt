-- The shell numbers of a mesh in the parts of a room.
pub mod Numbering
