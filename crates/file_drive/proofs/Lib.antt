pub mod PartLaws
pub mod PlaceLaws
pub mod SumLaws
pub mod ServedLaws
pub mod DataLaws
pub mod StoreLaws
pub mod ApartLaws
pub mod KeptLaws
pub mod PickLaws
pub mod OutLaws
pub mod ReadLaws
pub mod FaultLaws
pub mod ProveLaws
mod OpenLaws
mod TakeLaws
mod OpenedLaws
pub mod FindsLaws
mod FormatLaws
pub mod StoringLaws
mod LoadLaws
mod MarkLaws
