-- What a layer has depends on it and the next alone.
pub mod Local
pub mod Counted
pub mod Most
pub mod Said
