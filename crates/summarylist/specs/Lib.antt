-- What the parts that build and compare promise each other.
pub mod Rows
