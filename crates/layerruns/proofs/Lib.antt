-- What a granted call says and hands out; the state in its room; a volume that grows; one call more; what holds of every run; what is put together of a closed one, and demand 3 of it; two runs
-- that took the same layers; when every call is granted; and document 01's grids, layer by layer.
pub mod Granted
pub mod Standing
pub mod Volumes
pub mod Steps
pub mod RunState
pub mod PutTogether
pub mod TogetherHere
pub mod SameSoFar
pub mod GrantedAlike
pub mod Figures
