-- Reading: pieces from the front of a text; lines of any kind, with the first that is malformed; how the functions answer at a place of an input.
pub mod Reading
pub mod Lined
pub mod Answers
