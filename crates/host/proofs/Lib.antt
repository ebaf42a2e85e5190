-- The laws that the proofs of this crate cite.
pub mod RequestLaws
pub mod ComparingLaws
pub mod BrokenLaws
pub mod Unique
