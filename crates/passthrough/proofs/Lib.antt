mod AskLaws
mod FailingLaws
mod FirstLaws
mod FlushLaws
mod KeptLaws
mod LookLaws
mod PartLaws
mod ReadLaws
mod ReadyLaws
mod ReportLaws
pub mod SeenLaws
pub mod ShowLaws
mod ShowingLaws
mod SparedLaws
pub mod ThroughLaws
pub mod LimitLaws
