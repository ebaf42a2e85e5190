-- Tables that hang together, as statements, and the test that the code runs: both say the same.
pub mod Tests
pub mod Good
pub mod RowTests
pub mod PlaceTests
pub mod BoxTests
pub mod WordTests
pub mod Hanging
pub mod Found
