-- Runs; what they have handed out and left, by the layers that they took; and what is put together of a closed run.
pub mod Run
pub mod SoFar
pub mod Whole
