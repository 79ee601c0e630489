pub mod Shape
pub mod Search
pub mod Wire
pub mod Worst
pub mod Claims
