pub mod Tables
pub mod Views
pub mod Faults
pub mod Values
pub mod Hits
pub mod Judging
