pub mod Plans
pub mod Parts
pub mod Staying
pub mod Calls
pub mod Kept
pub mod Opened
