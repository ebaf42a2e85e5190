-- The meanings that the contracts cite, in the order in which they build on each other.
pub mod Words
pub mod Printing
pub mod Reading
pub mod Telling
pub mod Lines
pub mod Texts
