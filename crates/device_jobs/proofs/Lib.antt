pub mod ExportLaws
pub mod FormatLaws
pub mod FormatFaultLaws
pub mod ShownLaws
