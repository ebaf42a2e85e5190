-- The theorems that rest on `sleep-ends`.
pub mod Sleeps
pub mod ShownSleeps
