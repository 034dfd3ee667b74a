-- Bounds of binary64 numbers and of what the operations make of them; a triangle's cotangents and shares; a point's sums; what is stored is finite.
pub mod AtMost
pub mod AtLeast
pub mod Quotient
pub mod Cotangents
pub mod Shares
pub mod SumSizes
pub mod NeverNan
