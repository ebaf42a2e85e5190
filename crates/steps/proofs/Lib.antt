-- What the proofs share, and what is proved of the step.
pub mod Masks
pub mod StepLaws
pub mod Unique
