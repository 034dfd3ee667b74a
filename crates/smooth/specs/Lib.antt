-- Smoothing: what a call leaves behind, and what it promises (document 01, "Smoothing").
pub mod Smooth
pub mod Promise
