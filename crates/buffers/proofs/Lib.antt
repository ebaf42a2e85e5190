-- The laws that the proofs of the functions cite.
pub mod PutLaws
pub mod DecimalLaws
pub mod SheetLaws
pub mod Unique
