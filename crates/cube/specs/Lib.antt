-- Document 01, "One cube", in its order: the cube's numbers, the face rule, loops and fans, the answer of a case; what a ring round a face is by its corners' places; then what the calls
-- promise.
pub mod Cube
pub mod Face
pub mod Loop
pub mod Answer
pub mod Ring
pub mod Promise
