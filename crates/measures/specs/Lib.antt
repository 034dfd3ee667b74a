-- What is measured of one triangle (document 01, "Areas and mean curvature"). Reading order: a triangle in whole numbers, and how large they are; vectors of binary64
-- numbers; what a triangle gives its corners.
pub mod Sides
pub mod Sizes
pub mod Vectors
pub mod Corners
