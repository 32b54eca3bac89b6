pub mod Reach
pub mod Computed
pub mod Sizes
