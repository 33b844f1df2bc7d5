pub mod Delta
pub mod Op
pub mod Record
