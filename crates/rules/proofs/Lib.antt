-- What the proofs share.
pub mod HangingLaws
pub mod WalkingLaws
pub mod FindingLaws
pub mod Unique
