pub mod KeptLaws
pub mod Theorems
