-- Line 1 has one answer, and so has a mesh's text; what the calls of the reader make together.
pub mod OneCounts
pub mod OneRead
pub mod Ending
