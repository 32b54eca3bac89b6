pub mod Vertices
pub mod Cuts
pub mod Leaving
pub mod Needs
pub mod Calls
pub mod Standing
pub mod Laws
