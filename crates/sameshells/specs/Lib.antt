-- Whether the `S` lines of a text are those of the mesh in the work room.
pub mod Same
