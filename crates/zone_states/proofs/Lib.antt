pub mod CheckLaws
pub mod ListLaws
pub mod HoldLaws
pub mod Cutting
