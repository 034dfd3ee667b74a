-- The samples of a small grid; the checks of line 1; how much of an input decides; line 1, read and written; what is taken is the text of a small grid; the first malformed line; one outcome.
pub mod Samples
pub mod Checks
pub mod Enough
pub mod Heads
pub mod GridTexts
pub mod FirstMalformed
pub mod LineFeeds
pub mod OneGrid
