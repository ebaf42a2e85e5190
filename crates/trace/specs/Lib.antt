-- The meanings that the contracts cite, in the order in which they build on each other.
pub mod Ordered
pub mod Told
pub mod TraceBytes
pub mod Decoding
pub mod Cursor
pub mod Writer
pub mod Traces
