pub mod Slots
pub mod Place
pub mod Found
pub mod Runs
