pub mod Shared
pub mod Sizes
pub mod Worked
