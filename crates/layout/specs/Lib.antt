pub mod Format
pub mod Lookup
pub mod Records
pub mod Searches
pub mod Walks
