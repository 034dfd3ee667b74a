-- What a call leaves behind, and the promise that cites it.
pub mod Extraction
pub mod Promise
