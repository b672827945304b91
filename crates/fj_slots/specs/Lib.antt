pub mod Aside
pub mod Slots
pub mod Shelves
pub mod Marked
pub mod Hands
