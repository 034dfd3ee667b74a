-- The shell list (document 01, "Shells"): what a call promises. After that, what the parts below the call say of each other: lists of records as they are filled.
pub mod Promise
pub mod Filled
