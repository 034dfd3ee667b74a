-- What later floors cite about the definitions, and where a case stands in the table.
pub mod Way
pub mod Corners
pub mod Turned
pub mod Cases
pub mod Start
pub mod Classes
pub mod Rings
pub mod Places
pub mod OneCase
