-- How long a layer is at most, and the kept layer sample by sample.
pub mod Kept
