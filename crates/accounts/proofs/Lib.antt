-- What is proved of the contracts.
pub mod AccountLaws
pub mod Unique
