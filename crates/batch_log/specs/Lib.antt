pub mod Header
pub mod Reading
pub mod Causes
pub mod Log
pub mod LogLaws
pub mod Ending
pub mod Lent
pub mod Texts
