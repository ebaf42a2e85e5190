-- The meanings that the contracts cite.
pub mod Request
pub mod Told
pub mod Setup
pub mod Reads
pub mod Writes
pub mod Broken
pub mod Screen
pub mod Times
pub mod Layout
pub mod Comparing
