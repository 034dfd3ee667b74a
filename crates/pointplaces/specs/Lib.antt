-- The points' rooms while the points are placed.
pub mod Places
