-- What the steps find is what the walk along the cubes asks for; each way out leaves the defined outcome, the only one that the promise allows; and a query is the plain extraction.
pub mod Found
pub mod Ways
pub mod OneQuery
pub mod Plain
