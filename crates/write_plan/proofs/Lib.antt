pub mod RowLaws
pub mod DriveLaws
