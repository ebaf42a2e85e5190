-- The meanings that the contracts cite.
pub mod Replaying
pub mod Told
