pub mod Stop
pub mod DiskSize
pub mod Mounted
pub mod Backing
pub mod NewFile
pub mod Kept
pub mod Left
