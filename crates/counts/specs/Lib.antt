pub mod Counting
pub mod Answer
pub mod Promise
