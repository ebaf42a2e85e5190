-- What the proofs share.
pub mod Signed
pub mod RingLaws
pub mod CausesLaws
pub mod SettlingLaws
pub mod Blanks
pub mod Every
pub mod ToldLaws
pub mod Unique
