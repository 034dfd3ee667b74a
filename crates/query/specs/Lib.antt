-- What building a summary and a query leave behind, and the promises that cite it.
pub mod Query
pub mod Promise
