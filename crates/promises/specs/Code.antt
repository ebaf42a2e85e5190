-- What the statements say of the code: the words of `Paper` that are told of any functions, applied to those that contracts cite. Abbreviations
-- alone.
pub mod Steps
pub mod Pipes
pub mod Traces
pub mod Listing
pub mod Compare
