pub mod Talk
pub mod Serves
