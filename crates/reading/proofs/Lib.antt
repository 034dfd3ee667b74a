-- Reading what was written gives it back, and the other way round; reading at a place of an input.
pub mod Digits
pub mod Exact
pub mod Places
pub mod SignedPlaces
pub mod Lines
pub mod Fields
pub mod Signs
pub mod Texts
pub mod Following
pub mod Chains
pub mod Turns
pub mod Again
