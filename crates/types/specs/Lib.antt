pub mod Refusal
pub mod Units
pub mod Index
pub mod Flag
pub mod Value
pub mod ValueWithLayout
pub mod Response
