pub mod Rest
pub mod Supply
pub mod Model
pub mod Loading
pub mod Opening
pub mod Attaching
pub mod Histories
pub mod Reading
