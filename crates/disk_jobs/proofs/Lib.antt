mod AnyLaws
mod MountLaws
mod StoreLaws
pub mod FormattingLaws
