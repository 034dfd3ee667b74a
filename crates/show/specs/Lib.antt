-- One point shown (document 01, "Smoothing").
pub mod Show
pub mod Promise
