pub mod Fields
pub mod Arrays
pub mod Cursors
pub mod Laws
