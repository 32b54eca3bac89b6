pub mod Steps
pub mod Chunks
pub mod Rows
pub mod Tables
