-- That all of demand 3 is said of a query's mesh too.
pub mod QueriedHere
