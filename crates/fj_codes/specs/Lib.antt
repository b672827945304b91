pub mod Asked
pub mod Codings
pub mod Events
