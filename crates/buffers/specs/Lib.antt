-- The meanings that the contracts cite, in the order in which they build on each other.
pub mod Put
pub mod Decimal
