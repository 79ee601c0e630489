pub mod Run
pub mod Answer
pub mod Promise
pub mod Work
pub mod Examples
