pub mod Withdrawal
pub mod Answer
pub mod Examples
