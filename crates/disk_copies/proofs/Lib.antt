pub mod FlatWrites
pub mod FlatReads
pub mod Pieces
pub mod Runs
pub mod Imports
pub mod CopyLaws
pub mod WrittenLaws
