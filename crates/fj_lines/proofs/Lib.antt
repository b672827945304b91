-- Lines and what they say.
pub mod Reading
