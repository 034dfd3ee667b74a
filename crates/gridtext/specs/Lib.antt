-- The text of a small grid (document 01, "The program for small grids"). Reading order: a grid's text read, with the refusals in order; the text of a grid; which line is
-- malformed; what the call promises.
pub mod Grid
pub mod GridText
pub mod Malformed
pub mod Promise
