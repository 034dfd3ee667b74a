-- The lines of a mesh's text, read at a place of an input: a letter and a tab, and the pieces behind them.
pub mod Begun
pub mod Pieces
pub mod ShellLines
