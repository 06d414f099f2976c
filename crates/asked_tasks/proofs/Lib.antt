pub mod WordLaws
pub mod ToolLaws
pub mod DeviceLaws
