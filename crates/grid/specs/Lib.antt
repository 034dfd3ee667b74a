-- Document 01, "Numbers and sizes" and "Points and order", in their order: the limits, the refusals, the test of the sides, samples and grid edges, the points, how cubes are cut, the triangles. Work is
-- for the extractor's parts.
pub mod Limits
pub mod Refusal
pub mod Sides
pub mod Grid
pub mod Point
pub mod Mode
pub mod Mesh
pub mod Work
