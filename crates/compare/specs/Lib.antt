-- The meanings that the contracts cite, in the order in which they build on each other.
pub mod Told
pub mod Changes
pub mod Cells
pub mod Held
pub mod Order
pub mod Renewed
pub mod Compared
pub mod Bytes
pub mod Laid
pub mod Checksum
pub mod Saved
pub mod Applied
