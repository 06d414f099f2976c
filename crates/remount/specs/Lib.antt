pub mod Kept
pub mod Moving
pub mod TornRepair
pub mod Mount
pub mod Resets
pub mod Placing
pub mod Mounting
pub mod Torn
