-- The sums of a point (document 01, "Areas and mean curvature", second paragraph), and the rooms that hold them.
pub mod Sums
pub mod Rooms
