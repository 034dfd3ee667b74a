-- The ways out of the three calls; the lent layers in the grid of a state; one outcome for every state; what the tests of a state say.
pub mod Ways
pub mod Frames
pub mod OneLayer
pub mod Tested
