pub mod Repeats
pub mod Records
mod Contents
mod Finds
