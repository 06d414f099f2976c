pub mod Outcomes
pub mod Queue
pub mod Fates
pub mod Cache
pub mod Laws
