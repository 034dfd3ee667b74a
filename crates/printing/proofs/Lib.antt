-- The smoothing is granted; the shells are listed, and what is written with their records is what is to be printed.
pub mod Smoothing
pub mod Listed
