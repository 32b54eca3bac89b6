pub mod Views
pub mod Loads
pub mod Opens
pub mod Kept
