-- What one row of blocks is made of.
pub mod Numbers
