pub mod Filling
pub mod Sound
pub mod Model
