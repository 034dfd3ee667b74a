-- The lines of the shells read once more, and held against the columns.
pub mod Compared
pub mod Columns
pub mod Shells
