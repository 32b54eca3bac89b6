pub mod Width
pub mod Objects
pub mod ObjectFile
pub mod Scanning
