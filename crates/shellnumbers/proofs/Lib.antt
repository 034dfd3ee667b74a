-- What checks show; the ranks of the sets' roots are the numbers of the shells; how a list ends; the description allows one numbering; when all points are one shell.
pub mod Sound
pub mod Numbered
pub mod Listing
pub mod OneNumbering
pub mod OneShell
