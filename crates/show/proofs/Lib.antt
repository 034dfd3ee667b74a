-- What showing a point answers, and that one outcome is allowed.
pub mod Shown
pub mod OneShown
