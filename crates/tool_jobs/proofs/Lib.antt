pub mod TellingLaws
pub mod CheckLaws
mod InfoLaws
mod PictureLaws
