-- The meanings that this crate's contracts cite.
pub mod Account
pub mod Accounting
