pub mod Event
pub mod Work
