pub mod AnswerLaws
pub mod FillLaws
