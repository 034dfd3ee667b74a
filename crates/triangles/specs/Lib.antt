-- What the walk along the cubes writes, and what its parts rely on.
pub mod Names
pub mod Walk
