pub mod Mapping
pub mod Nobody
