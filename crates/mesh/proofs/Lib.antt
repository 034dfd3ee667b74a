-- The check has one answer, and a mesh that it lets pass has these facts.
pub mod Places
pub mod Passed
pub mod OneCheck
