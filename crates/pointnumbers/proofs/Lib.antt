-- Steps of the numbering, and the walk of a stretch.
pub mod Numbering
pub mod Walk
