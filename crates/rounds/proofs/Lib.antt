-- Smoothing keeps coordinates within the limit (Weighed, Within); how the code sums up, places a point and goes through a round.
pub mod Weighed
pub mod Within
pub mod Summing
pub mod Placed
pub mod Rounding
