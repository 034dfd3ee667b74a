-- What a number in decimal is made of; a text from a place on, and the byte behind a field; the bytes of a quoted text.
pub mod Decimals
pub mod Bytes
pub mod Quoted
pub mod Fields
