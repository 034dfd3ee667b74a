-- What the three calls leave behind, and the promises that cite it; what the part leaves that takes a first layer.
pub mod Outcome
pub mod Promise
pub mod First
