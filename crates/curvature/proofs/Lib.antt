-- What the rooms hold at the end; what is read back; a granted call; one outcome; that what was stored is read back as it was worked out; what a caller in C is told.
pub mod Finished
pub mod Readings
pub mod Granted
pub mod OneCurvature
pub mod Recovered
pub mod Telling
