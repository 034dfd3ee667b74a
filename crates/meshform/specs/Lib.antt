-- The pass over the lines of a mesh's text behind line 1.
pub mod Form
