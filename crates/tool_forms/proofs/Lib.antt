pub mod CountLaws
mod NameLaws
