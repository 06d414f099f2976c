pub mod Mounted
pub mod Saved
pub mod FaultLine
pub mod Asked
pub mod AnyDevice
pub mod Formatting
