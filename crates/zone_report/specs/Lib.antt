pub mod Report
pub mod ReportText
