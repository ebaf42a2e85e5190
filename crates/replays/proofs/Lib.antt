-- What the proofs share.
pub mod ReplayLaws
pub mod ToldLaws
pub mod Unique
