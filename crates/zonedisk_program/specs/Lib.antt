pub mod InPlace
pub mod Ends
