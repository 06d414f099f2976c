pub mod Begun
pub mod Failing
pub mod Forgetting
pub mod Serving
pub mod Laws
