pub mod Call
pub mod Answer
pub mod GroupAnswer
pub mod Served
pub mod Run
pub mod Demands
