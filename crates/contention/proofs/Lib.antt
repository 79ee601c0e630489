pub mod OwnLaws
pub mod ContendLaws
