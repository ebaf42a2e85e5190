-- The laws that the proofs of the functions cite.
pub mod RowLaws
pub mod ViewLaws
pub mod EndingLaws
pub mod StopLaws
pub mod Unique
