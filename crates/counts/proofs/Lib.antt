pub mod CountLaws
pub mod AnswerLaws
