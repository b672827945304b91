-- blocks of items
pub mod Blocks
-- the first wanted item
pub mod Firsts
