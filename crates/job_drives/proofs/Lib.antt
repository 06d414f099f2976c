mod HeaderLaws
pub mod MountLaws
mod BackingLaws
pub mod KeptLaws
