-- The lines of the points read once more; what was decided and filled is what the reader promises.
pub mod Again
pub mod Reading
