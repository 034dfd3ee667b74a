-- Words that belong to no one part of the library. Reading order: sums, joins, counts and tests over a range; a list of values; the same over a list; the least and
-- the greatest of a list; lists in another order; bits of a number; division to the nearest; signed sums; a list in the front of a room; a part of a room; numbers in threes; triangles and their sides.
pub mod Range
pub mod Values
pub mod Sum
pub mod Least
pub mod Order
pub mod Bits
pub mod Nearest
pub mod Signed
pub mod Room
pub mod Part
pub mod Threes
pub mod Mesh
