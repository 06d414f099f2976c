pub mod Listing
pub mod MatchingLaws
pub mod ReportLaws
pub mod TextLaws
