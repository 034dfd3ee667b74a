-- Lines written one behind the other.
pub mod LinesWritten
