pub mod Message
pub mod Lists
