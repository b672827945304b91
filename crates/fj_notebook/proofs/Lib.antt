-- notes that are written one after another
pub mod Written
