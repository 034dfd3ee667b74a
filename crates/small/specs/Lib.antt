-- What the program for small grids answers (document 01), what its functions ask and promise, and what it writes of what it reads.
pub mod Answer
pub mod Promise
pub mod Streams
