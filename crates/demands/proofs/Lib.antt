pub mod IndexLaws
pub mod SettledLaws
pub mod TreeLaws
pub mod FollowLaws
pub mod Demand3
pub mod RowLaws
