pub mod ReportLaws
pub mod KeptLaws
pub mod AnswerLaws
