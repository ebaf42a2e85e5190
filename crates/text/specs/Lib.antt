-- The meanings that the contracts cite, in the order in which they build on each other.
pub mod Parts
pub mod Rows
pub mod Tables
pub mod Why
pub mod Sums
pub mod Views
pub mod Ending
