-- Sides that lead; roots and sets; sets made of triangles; ranks of roots.
pub mod Leading
pub mod Roots
pub mod Linked
pub mod Uniting
pub mod Ranking
