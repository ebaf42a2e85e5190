-- The meanings that the contracts cite, in the order in which they build on each other.
pub mod Sizes
pub mod Ring
pub mod Signs
pub mod Tables
pub mod Causes
pub mod Told
pub mod Fresh
pub mod Calls
pub mod Binary
pub mod Mailbox
pub mod Pool
pub mod Acting
pub mod Settling
