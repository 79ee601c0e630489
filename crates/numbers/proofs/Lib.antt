pub mod ReadLaws
pub mod WriteLaws
pub mod Inverse
