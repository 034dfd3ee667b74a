-- The list of records after some lines of a text were read into it.
pub mod Filled
