-- How the readers of a line of a mesh's text answer.
pub mod Answers
