pub mod Contenders
pub mod Work
