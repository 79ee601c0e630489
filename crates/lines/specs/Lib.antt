pub mod Program
pub mod Promise
pub mod Examples
pub mod Work
