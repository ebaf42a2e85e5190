-- The meanings that the contracts cite, in the order in which they build on each other.
pub mod Limits
pub mod RowRules
pub mod PlaceRules
pub mod ReferenceRules
pub mod MailboxRules
pub mod PoolRules
pub mod WordRules
pub mod Walking
pub mod Hanging
pub mod Finding
pub mod Options
