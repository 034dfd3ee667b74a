-- Document 01, "Figures to hold it against": the rows marked P, in one table; then the grid of 3×3×3 samples with the centre above.
pub mod Figure
pub mod Centre
