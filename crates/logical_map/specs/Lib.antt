pub mod Places
pub mod Pages
pub mod Live
pub mod Counts
pub mod Lists
pub mod Words
