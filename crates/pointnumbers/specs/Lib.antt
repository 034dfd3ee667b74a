-- The work room while the points are numbered.
pub mod Numbers
