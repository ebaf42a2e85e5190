-- The meanings that the contracts cite, in the order in which they build on each other.
pub mod Table
pub mod Told
pub mod Carrying
pub mod Judging
pub mod Opening
pub mod Transfer
