pub mod Class
pub mod Answer
pub mod Promise
