-- The promise allows one outcome; there are no more shells than points; what a granted list says.
pub mod OneShellList
pub mod Few
pub mod Granted
-- Records that grow become those of the shells; how the call ends.
pub mod Growing
pub mod Made
pub mod Ending
