pub mod Table
pub mod Set
pub mod Members
pub mod Request
pub mod Rows
pub mod Fields
pub mod Checked
