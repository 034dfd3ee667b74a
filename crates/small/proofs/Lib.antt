-- The rooms hold every small grid; each step of the program is granted; the program's answer is the only one that its promise allows,
-- and that to the whole input; the first malformed line; document 01's worked example.
pub mod Few
pub mod Steps
pub mod Read
pub mod Extracted
pub mod OneAnswer
pub mod Whole
pub mod Malformed
pub mod Example
