-- Text (document 01, "The program for small grids"): numbers in decimal, and lines of them, as bytes.
pub mod Decimal
pub mod Line
