pub mod Held
pub mod Valid
pub mod Edits
pub mod Scan
pub mod Payloads
