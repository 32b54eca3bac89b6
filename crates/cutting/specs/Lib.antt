pub mod Computed
pub mod Cutting
pub mod Shortest
pub mod SplitPoints
