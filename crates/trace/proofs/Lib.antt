-- What the proofs share, and the round trip.
pub mod Widths
pub mod SizesLaws
pub mod Framing
pub mod Room
pub mod Runs
pub mod BodyLaws
pub mod WritingLaws
pub mod ReadingLaws
pub mod AgainLaws
pub mod TraceLaws
pub mod ToldLaws
pub mod Unique
