pub mod Words
pub mod Values
pub mod ToolWords
pub mod EntryWords
pub mod DriveWords
pub mod DeviceWords
