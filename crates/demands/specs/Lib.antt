pub mod Claims
pub mod Rows
pub mod Examples
