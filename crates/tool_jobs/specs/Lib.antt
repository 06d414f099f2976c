pub mod Telling
pub mod Checks
pub mod Infos
pub mod Plans
pub mod Zones
pub mod Entries
pub mod Pictures
pub mod Asked
