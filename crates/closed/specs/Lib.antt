-- What demand 3 says of a surface, in its words: how often triangles run from one point to another, which points lie on one outer face, the balance, and one triangle each way; of
-- which mesh it is said: one that was extracted here, smoothed here or not; when a shell is closed; when a list of shells is right; the slit that the balance finds; and a cube with a
-- side on an outer face, of which one triangle each way is not claimed. Pattern is what a mode owes so that all this holds of its meshes.
pub mod Runs
pub mod Left
pub mod Shell
pub mod Listed
pub mod Slit
pub mod OneCube
pub mod Pattern
