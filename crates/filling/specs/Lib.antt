-- A granted mesh in the result rooms.
pub mod Filled
