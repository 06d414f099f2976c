pub mod FileLaws
pub mod MendLaws
