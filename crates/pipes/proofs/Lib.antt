-- What the proofs share.
pub mod CarryingLaws
pub mod TransferLaws
pub mod ToldLaws
pub mod Unique
