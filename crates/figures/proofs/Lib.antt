-- Every row of the table holds; what document 01 says of the grid of 3×3×3 samples with the centre above; its worked example, and texts that are refused; boxes of shells; texts read back; the steps of document 02 (vi).
pub mod Figures
pub mod Centre
pub mod Examples
pub mod Boxes
pub mod ReadBack
pub mod Summaries
