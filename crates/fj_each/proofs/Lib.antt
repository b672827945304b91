mod Rows
mod Searches
