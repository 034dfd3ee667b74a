-- Rows of samples as masks, and the flags that they are gathered from.
pub mod Masks
pub mod Flags
