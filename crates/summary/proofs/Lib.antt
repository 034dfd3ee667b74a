-- Laws of the summary and of the steps.
pub mod Looked
pub mod Halves
pub mod Numbers
pub mod Crossed
pub mod Alike
pub mod Few
pub mod Counted
pub mod Places
pub mod Found
pub mod Quick
