-- The whole text; the ways that the writing ends; and that one outcome is allowed.
pub mod MeshTexts
pub mod Ending
pub mod OneMesh
