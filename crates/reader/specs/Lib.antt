-- What is answered of line 1; what the reader answers, what its parts leave, and what it promises.
pub mod Counts
pub mod Promise
pub mod Parts
