-- What the reader has decided before it fills a result room.
pub mod Judged
