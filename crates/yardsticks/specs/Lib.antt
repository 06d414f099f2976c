pub mod Batches
pub mod Zones
pub mod Lying
pub mod Failing
