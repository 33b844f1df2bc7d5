pub mod Layout
pub mod Found
pub mod Tests
pub mod Kinds
