pub mod Found
pub mod Views
pub mod Places
pub mod Segments
pub mod Filled
pub mod Counts
