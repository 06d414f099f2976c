pub mod KeepLaws
pub mod CommandLaws
pub mod TailLaws
pub mod MovedLaws
pub mod CauseLaws
pub mod PlaceLaws
