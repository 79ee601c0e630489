pub mod TableLaws
pub mod GrantLaws
