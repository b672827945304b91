pub mod Calls
pub mod Checks
pub mod Held
pub mod History
pub mod Lists
pub mod Texts
