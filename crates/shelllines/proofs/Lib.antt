-- Two shells' lines, computed; the line of a shell, its parts one after the other.
pub mod TwoShells
pub mod ShellTexts
