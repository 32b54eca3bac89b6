pub mod Computing
pub mod Growing
pub mod Theory
