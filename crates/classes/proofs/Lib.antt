pub mod FloorLaws
pub mod VerdictLaws
