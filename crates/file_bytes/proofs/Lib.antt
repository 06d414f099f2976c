pub mod OverlayLaws
pub mod PendingLaws
pub mod SpliceLaws
