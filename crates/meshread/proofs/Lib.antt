-- Any two outcomes of the reader are equal; the lines, read as they were written.
pub mod OneRead
pub mod Lines
pub mod Rows
pub mod Written
pub mod Read
pub mod Exactly
