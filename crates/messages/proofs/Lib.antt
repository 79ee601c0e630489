pub mod OrderLaws
pub mod ListLaws
pub mod KeptLaws
pub mod LeastLaws
