-- Areas and mean curvature (document 01). Reading order: a point's answer; what the calls leave behind, and their promises.
pub mod Answers
pub mod Curved
pub mod Promise
