-- What the proofs share.
pub mod ReadingLaws
pub mod ToldLaws
pub mod LinesLaws
pub mod NumberLaws
pub mod WordLaws
pub mod EntryLaws
pub mod BackLaws
pub mod Unique
