-- Sides that lead from one point to another (demand 3), and points in sets.
pub mod Led
pub mod Sets
