-- The lines of a mesh's shells, each the text of one record.
pub mod ShellLines
