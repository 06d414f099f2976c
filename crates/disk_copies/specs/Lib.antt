pub mod Copies
pub mod DriveCopies
pub mod Written
