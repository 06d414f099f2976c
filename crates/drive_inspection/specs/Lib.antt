pub mod Found
pub mod Reads
pub mod Lists
pub mod Findings
pub mod Info
pub mod Written
