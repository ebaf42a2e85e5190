-- What the proofs share.
pub mod ChangesLaws
pub mod RowLaws
pub mod CellsLaws
pub mod OrderLaws
pub mod ListLaws
pub mod AppliedLaws
pub mod ComparedLaws
pub mod ReadBackLaws
pub mod AnswerLaws
pub mod BytesLaws
pub mod LaidLaws
pub mod ToldLaws
pub mod KeptLaws
pub mod SavedLaws
pub mod Unique
