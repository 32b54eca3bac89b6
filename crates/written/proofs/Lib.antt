pub mod Back
pub mod Neat
pub mod Leads
pub mod Sizes
pub mod Comes
