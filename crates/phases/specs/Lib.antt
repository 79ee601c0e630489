pub mod After
pub mod Work
