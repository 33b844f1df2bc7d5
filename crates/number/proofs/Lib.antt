pub mod AnyBase
pub mod Digits
pub mod Halves
pub mod SetRuns
