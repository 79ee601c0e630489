pub mod CountLaws
pub mod StepLaws
pub mod RunLaws
pub mod LoopLaws
pub mod BudgetLaws
pub mod KeptLaws
