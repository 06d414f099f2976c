pub mod FaultText
pub mod Jobs
