pub mod DescriptorLaws
pub mod NumberLaws
