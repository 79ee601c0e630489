pub mod ShopText
pub mod Work
