pub mod Formats
pub mod Laws
pub mod Writing
pub mod WriterLaws
