pub mod Ascends
pub mod Chunks
pub mod Counts
pub mod Runs
pub mod Writes
