pub mod Roles
pub mod Tables
pub mod Agreement
pub mod Changes
pub mod Sane
pub mod Builder
pub mod Victim
