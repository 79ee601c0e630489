pub mod LookLaws
pub mod VisitLaws
pub mod VerdictLaws
