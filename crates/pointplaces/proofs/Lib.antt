-- The placing; the ends of a crossed edge.
pub mod Placing
pub mod Ends
