-- The scaled whole root of a whole number (document 01, "Areas and mean curvature").
pub mod Root
pub mod Promise
