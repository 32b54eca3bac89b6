mod Apart
pub mod Steps
pub mod Seeks
mod Means
