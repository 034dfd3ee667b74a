-- The point on a grid edge, and the points' rooms.
pub mod EdgePoint
