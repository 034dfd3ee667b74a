-- A triangle stands under one number; every point and triangle is counted once; shells are listed by their lowest points; a shell's box; how large volumes are; records that grow; how far the numbers of a record reach.
pub mod OneNumber
pub mod Totals
pub mod Lows
pub mod Box
pub mod Sizes
pub mod Making
pub mod Within
