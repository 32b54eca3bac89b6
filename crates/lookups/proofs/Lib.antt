mod Heads
mod Offsets
mod Walks
mod Known
pub mod Judged
mod Places
mod Shared
