pub mod FieldLaws
