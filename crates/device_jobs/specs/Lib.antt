pub mod Ways
pub mod Reports
pub mod Shown
pub mod Runs
pub mod Looks
pub mod Copies
pub mod Formats
pub mod Durable
