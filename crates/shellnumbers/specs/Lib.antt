-- The numbers of the shells (document 01, "Shells"): a description, and what a list of them leaves behind.
pub mod Numbering
pub mod Lists
