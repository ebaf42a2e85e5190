-- What is promised, room by room.
pub mod Paper
pub mod Code
pub mod Runs
pub mod Together
pub mod Kept
pub mod Meant
pub mod Top
pub mod HostCalls
