-- What the layers of a volume have; what the parts of a call rely on, and what they leave.
pub mod Layer
pub mod Parts
