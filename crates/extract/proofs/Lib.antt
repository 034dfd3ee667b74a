-- What the masks say is what the samples say, and each way out leaves the defined outcome, the only one that the promise allows. Plain: the outcome for document 01's cubes.
pub mod Ways
pub mod Refusals
pub mod OneExtraction
pub mod Plain
