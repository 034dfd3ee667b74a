-- The window and the steps into it, the digits of the root, and that the facts promised fix s and r, which the definitions work out.
pub mod Window
pub mod Steps
pub mod Digit
pub mod OneRoot
