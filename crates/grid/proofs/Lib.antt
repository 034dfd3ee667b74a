-- What later floors cite about samples, edges and places; and the empty mesh of grey value 0.
pub mod Refused
pub mod Sides
pub mod Sites
pub mod Crossings
pub mod Same
pub mod Points
pub mod Edges
pub mod Sound
pub mod Named
pub mod Empty
pub mod Plain
pub mod Lent
