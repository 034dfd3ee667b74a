-- Rounds of smoothing (document 01, "Smoothing"). After that, a round as the code has it.
pub mod Round
pub mod Steps
