pub mod Splitting
pub mod Histories
