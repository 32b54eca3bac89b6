pub mod Marking
pub mod Spread
pub mod Disjoint
pub mod Lengths
pub mod Closure
pub mod Growing
