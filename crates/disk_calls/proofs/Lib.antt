pub mod ExtentLaws
pub mod HoleLaws
pub mod ServeLaws
