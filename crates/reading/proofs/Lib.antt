pub mod ListLaws
pub mod PieceLaws
pub mod LineLaws
pub mod ShopLaws
